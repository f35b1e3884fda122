-- A whole history, and the rows that are counted.
use Rattle.std.proofs.Common.{◌≡◌, ℕ, suc, zero, ◌+◌, ◌≤◌, List, [], ◌∷◌, ◌++◌, length, map, Bool, true, refl, sym, ap, ◌∙◌, subst, arith, append_assoc, length-append}
use Rattle.std.specs.Prelude.{◌↔◌, Contains, IsPermutation, filter, int_lt}
use Rattle.std.proofs.lemmas.List.Sorted.{Contains-permutation, IsPermutation-append_left, IsPermutation-map, IsPermutation-sym}
use Rattle.arch_types.specs.declared.row.Row.{Row}
use Rattle.arch_types.specs.History.{is_in_table}
use Rattle.arch_types.specs.Order.{order_by}
use Rattle.arch_types.proofs.InOrder.{order_same}
use Rattle.archive_history.specs.Limits.{octets_of, interval_rows, IsWithin, IsWithinOver}
use Rattle.archive_history.proofs.Sums.{octets-append, interval_rows-append}
use Rattle.histogram.specs.Spans.{histogram_of}
use Rattle.history_items.specs.Items.{rows_in}
use Rattle.history_items.proofs.ItemLists.{rows_of_rows}
use Rattle.partitions.specs.declared.partition.Partition.{Partition}
use Rattle.partitions.specs.Partition.{partition_of}
use Rattle.partitions.specs.Rows.{partitions_of}
use Rattle.partitions.proofs.Members.{filter_has}
use Rattle.run_pages.specs.Placed.{Placed, behind_positions, rows_of_placed}
use Rattle.sealed_rows.specs.Rows.{in_order, is_earlier}
use Rattle.sealed_sums.specs.InOrder.{AreInOrder}
use Rattle.sealed_sums.proofs.OrderBlind.{bare, in_table-append, one_time, order_blind, sum_blind, times_in_table}
use Rattle.sealed_history.specs.Laws.{CountedPartitionsAreItems, CountedSpansAreItems, PlainIsWhole, WholeIsWithin}
use Rattle.sealed_history.specs.SealedHistory.{SealedHistoryView, IsPlainHistory, IsWholeHistory, counted_rows, items_over}
use Rattle.sealed_history.proofs.Pieces.{order_before}

-- ---- the rows

pub rows_behind_positions : (placed : List Placed) → bare (behind_positions placed) ≡ rows_of_placed placed
rows_behind_positions [] = refl
rows_behind_positions (at ∷ placed) = ap (λ (l : List Row). at.row ∷ l) (rows_behind_positions placed)

behind-length : (placed : List Placed) → length (behind_positions placed) ≡ length placed
behind-length [] = refl
behind-length (at ∷ placed) = ap suc (behind-length placed)

rows_over : (h : SealedHistoryView) → IsWholeHistory h → rows_in h.items ≡ in_order h.placed ++ h.log
rows_over h whole = ap rows_in whole.items ∙ rows_of_rows (in_order h.placed ++ h.log)

-- ---- limits

module _ (h : SealedHistoryView) (whole : IsWholeHistory h) where
  as_many : h.base + length h.log ≡ length (rows_in h.items)
  as_many = omega (arith, whole.base, behind-length h.placed, whole.placed_in_order.as_many, ap length (rows_over h whole), length-append (in_order h.placed) h.log)

  module _ (F : List Row → ℕ) (append : (a b : List Row) → F (a ++ b) ≡ F a + F b) where
    same_sum : F (rows_of_placed h.placed ++ h.log) ≡ F (rows_in h.items)
    same_sum =
        let blind : F (rows_of_placed h.placed) ≡ F (in_order h.placed) = ap F (sym (rows_behind_positions h.placed)) ∙ sum_blind F append (behind_positions h.placed) (in_order h.placed) whole.placed_in_order in
        append (rows_of_placed h.placed) h.log ∙ ap (λ (n : ℕ). n + F h.log) blind ∙ sym (append (in_order h.placed) h.log) ∙ ap F (sym (rows_over h whole))

  within_both : IsWithinOver h.exponent h.base (rows_of_placed h.placed) h.log ↔ IsWithin h.exponent (rows_in h.items)
  within_both = (
    (λ over. record {
      few = omega (arith, as_many, over.few);
      octets = omega (arith, same_sum octets_of octets-append, over.octets);
      intervals = λ i. omega (arith, same_sum (interval_rows h.exponent i) (interval_rows-append h.exponent i), over.intervals i);
    }),
    (λ within. record {
      few = omega (arith, as_many, within.few);
      octets = omega (arith, same_sum octets_of octets-append, within.octets);
      intervals = λ i. omega (arith, same_sum (interval_rows h.exponent i) (interval_rows-append h.exponent i), within.intervals i);
    }),
  )

pub whole_is_within : WholeIsWithin
whole_is_within h whole = within_both h whole

-- ---- partitions

same_rows : (h : SealedHistoryView) → IsWholeHistory h → IsPermutation (counted_rows h) (rows_in h.items)
same_rows h whole =
    subst (IsPermutation (counted_rows h)) (sym (rows_over h whole))
    (IsPermutation-append_left h.log (rows_of_placed h.placed) (in_order h.placed) (IsPermutation-map (λ (at : Placed). at.row) h.placed (order_by is_earlier h.placed) (order_same is_earlier h.placed)))

module _ {X Y : Type 0} (f : X → Y) where
  from_map : (xs : List X) (y : Y) → Contains (map f xs) y → (x : X) × Contains xs x × (f x ≡ y)
  from_map [] y (k, lt, is) = absurd (omega (arith, lt))
  from_map (x ∷ xs) y (zero, lt, is) = (x, (0, omega arith, refl), is)
  from_map (x ∷ xs) y (suc k, lt, is) =
      let rest = from_map xs y (k, omega (arith, lt), is) in
      (rest.0, (suc rest.1.0, omega (arith, rest.1.1), rest.1.2), rest.2)

  to_map : (xs : List X) (x : X) → Contains xs x → Contains (map f xs) (f x)
  to_map [] x (k, lt, is) = absurd (omega (arith, lt))
  to_map (y ∷ xs) x (zero, lt, is) = (0, omega arith, ap f is)
  to_map (y ∷ xs) x (suc k, lt, is) = let rest = to_map xs x (k, omega (arith, lt), is) in (suc rest.0, omega (arith, rest.1), rest.2)

-- a partition of rows in one order is one of them in another
partition_stays : (test : Row → Bool) (xs ys : List Row) (p : Partition) → IsPermutation xs ys → Contains (partitions_of (filter test xs)) p → Contains (partitions_of (filter test ys)) p
partition_stays test xs ys p same has =
    let of_row = λ (row : Row). partition_of row.key.time row.pname in
    let found = from_map of_row (filter test xs) p has in
    let kept = (filter_has test xs found.0).0 found.1 in
    let there = (filter_has test ys found.0).1 (Contains-permutation xs ys found.0 same kept.0, kept.1) in
    subst (λ (q : Partition). Contains (partitions_of (filter test ys)) q) found.2 (to_map of_row (filter test ys) found.0 there)

pub counted_partitions : CountedPartitionsAreItems
counted_partitions h whole table p =
    let same = same_rows h whole in (
      partition_stays (is_in_table table) (counted_rows h) (rows_in h.items) p same,
      partition_stays (is_in_table table) (rows_in h.items) (counted_rows h) p (IsPermutation-sym (counted_rows h) (rows_in h.items) same),
    )

-- ---- spans

pub counted_spans : CountedSpansAreItems
counted_spans h whole table pname =
    let times = times_in_table table pname in
    let runs = rows_of_placed h.placed in
    let rows = in_order h.placed in
    let blind : order_by int_lt (times runs) ≡ order_by int_lt (times rows) =
    ap (λ (l : List Row). order_by int_lt (times l)) (sym (rows_behind_positions h.placed))
    ∙ order_blind times (in_table-append table pname) (one_time table pname) (behind_positions h.placed) rows whole.placed_in_order in
    ap histogram_of
    (ap (order_by int_lt) (in_table-append table pname runs h.log) ∙ order_before (times runs) (times rows) (times h.log) blind
    ∙ ap (order_by int_lt) (sym (in_table-append table pname rows h.log)) ∙ ap (λ (l : List Row). order_by int_lt (times l)) (sym (rows_over h whole)))

-- ---- a history without runs

none_in_order : AreInOrder [] []
none_in_order = record {
  as_many = refl;
  only = λ position row has. let less = has.1 in absurd (omega arith);
  each = λ position row at. absurd cc;
}

pub plain_is_whole : PlainIsWhole
plain_is_whole h plain =
    let none : behind_positions h.placed ≡ [] = ap behind_positions plain.placed in
    let rows : in_order h.placed ≡ [] = ap in_order plain.placed in
    record {
      base = plain.base ∙ ap length (sym plain.placed);
      placed_in_order = subst (λ (l : List (ℕ × Row)). AreInOrder l (in_order h.placed)) (sym none) (subst (AreInOrder []) (sym rows) none_in_order);
      items = plain.items ∙ ap (λ (l : List Placed). items_over l h.log) (sym plain.placed);
    }
