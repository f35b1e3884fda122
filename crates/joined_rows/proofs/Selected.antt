-- What the rows of a table in a history that pass a test contain.
use Rattle.std.proofs.Common.{◌≡◌, ℕ, Bool, true, List}
use Rattle.std.specs.Prelude.{◌↔◌, filter}
use Rattle.std.specs.List.{Contains}
use Rattle.std.proofs.lemmas.List.Kept.{IsSortedBy-filter}
use Rattle.std.proofs.lemmas.List.Sorted.{Contains-permutation, IsPermutation-sym}
use Rattle.arch_types.specs.declared.row.Row.{Row}
use Rattle.arch_types.specs.History.{IsHistory, is_in_table}
use Rattle.arch_types.specs.Order.{is_before}
use Rattle.arch_types.specs.Table.{table_of}
use Rattle.arch_types.proofs.InOrder.{order_same, order_sorted}
use Rattle.arch_types.proofs.Ranks.{rows_rank}
use Rattle.partitions.proofs.Members.{filter_has}
use Rattle.replay_merge.proofs.Sorting.{ascending}
use Rattle.replay_merge.proofs.Sources.{strictly}
use Rattle.replay_merge.proofs.Tied.{one_after, one_in_table}
use Rattle.joined_rows.specs.Rising.{HaveRisingKeys}

module _ (table : ℕ) (test : Row → Bool) where
  -- the rows of the table that pass the test, in the order of their keys
  abbrev pub selected : List Row → List Row
  selected rows = filter test (table_of table rows)

  pub selected_has : (rows : List Row) (row : Row) → Contains (selected rows) row ↔ (Contains rows row × (is_in_table table row ≡ true) × (test row ≡ true))
  selected_has rows row = (
    λ has.
        (let passed = (filter_has test (table_of table rows) row).0 has in
        let those = filter (is_in_table table) rows in
        let in_table = (filter_has (is_in_table table) rows row).0 (Contains-permutation (table_of table rows) those row (IsPermutation-sym those (table_of table rows) (order_same is_before those)) passed.0) in
        (in_table.0, in_table.1, passed.1)),
    λ parts.
        (let those = filter (is_in_table table) rows in
        let in_table : Contains (table_of table rows) row = Contains-permutation those (table_of table rows) row (order_same is_before those) ((filter_has (is_in_table table) rows row).1 (parts.0, parts.1)) in
        (filter_has test (table_of table rows) row).1 (in_table, parts.2)),
  )

  pub selected_rises : (rows : List Row) → IsHistory rows → HaveRisingKeys (selected rows)
  selected_rises rows is =
      strictly (selected rows) (ascending rows_rank (selected rows) (IsSortedBy-filter is_before rows_rank test (table_of table rows) (order_sorted (filter (is_in_table table) rows))))
      (λ z. one_after test z (table_of table rows) (one_in_table table z rows is))
