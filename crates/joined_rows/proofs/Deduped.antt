-- Rows in order, of those with one key the first.
use Rattle.std.proofs.Common.{◌≡◌, true, List, refl, sym, subst}
use Rattle.std.specs.List.{Any, Contains, dedup}
use Rattle.std.specs.List.Sorted.{IsPermutation, IsSorted}
use Rattle.std.specs.Cmp.{IsTotalOrder, on_total}
use Rattle.std.proofs.lemmas.Cmp.{eq_by_cmp_equiv}
use Rattle.std.proofs.lemmas.List.Kept.{Any-dedup, Contains-from_dedup, IsStrictlySortedBy-dedup}
use Rattle.std.proofs.lemmas.List.Sorted.{Contains-permutation, IsPermutation-sym}
use Rattle.std.proofs.lemmas.Map.Views.{tells_apart}
use Rattle.arch_types.specs.declared.row.Row.{Row}
use Rattle.arch_types.specs.Order.{key_cmp}
use Rattle.arch_types.proofs.Ranks.{key_cmp_total}
use Rattle.joined_rows.specs.Rising.{HaveRisingKeys, has_key_of}
use Rattle.joined_rows.proofs.SameRows.{exact_keys}

rows_total : IsTotalOrder (λ (a b : Row). key_cmp a.key b.key)
rows_total = on_total (λ (row : Row). row.key) key_cmp_total

module _ (rows sorted rising : List Row) (same : IsPermutation rows sorted) (in_order : IsSorted (λ (a b : Row). key_cmp a.key b.key) sorted) (is : rising ≡ dedup has_key_of sorted) where
  pub rises : HaveRisingKeys rising
  rises = subst HaveRisingKeys (sym is) (IsStrictlySortedBy-dedup rows_total (λ x y. refl) sorted in_order)

  pub no_others : (row : Row) → Contains rising row → Contains rows row
  no_others row has = Contains-permutation sorted rows row (IsPermutation-sym rows sorted same) (Contains-from_dedup has_key_of sorted row (subst (λ (l : List Row). Contains l row) is has))

  pub each_key : (row : Row) → Contains rows row → Any (λ (kept : Row). kept.key ≡ row.key) rising
  each_key row has = by (Any-dedup (eq_by_cmp_equiv rows_total) sorted row (Contains-permutation rows sorted row same has))
    where
      by : Any (λ (y : Row). has_key_of row y ≡ true) (dedup has_key_of sorted) → Any (λ (kept : Row). kept.key ≡ row.key) rising
      by (k, kept, lt, at, one) = subst (λ (l : List Row). Any (λ (y : Row). y.key ≡ row.key) l) (sym is) (k, kept, lt, at, sym (tells_apart exact_keys row.key kept.key one))
