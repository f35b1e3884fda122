-- Rows that were found by one test, and those of a range or an interval.
use Rattle.std.proofs.Common.{◌≡◌, ℕ, ℤ, List, [], ◌∷◌, Bool, true, false, cond, eqb, refl, sym, ◌∙◌, ap, arith}
use Rattle.std.specs.Prelude.{filter, ◌&&◌}
use Rattle.std.specs.Ordering.{int_eq}
use Rattle.std.proofs.lemmas.Bool.Decides.{nat_tests}
use Rattle.std.proofs.lemmas.List.Elements.{filter_agree}
use Rattle.intervals.specs.declared.interval.Interval.{Interval}
use Rattle.arch_types.specs.declared.row.Row.{Row}
use Rattle.intervals.specs.Interval.{interval_of, interval_start, interval_end}
use Rattle.arch_types.specs.Order.{is_before, order_by}
use Rattle.arch_types.specs.History.{is_in_table}
use Rattle.arch_types.specs.Table.{range_of, is_in_time_range}
use Rattle.history_items.specs.Items.{is_of_interval, items_of}
use Rattle.history_items.proofs.ItemLists.{rows_of_rows}
use Rattle.archive_core.specs.RowTests.{is_row_of_range}
use Rattle.interval_fills.specs.Intervals.{rows_of_interval}
use Rattle.interval_fills.proofs.Intervals.{tests_alike, range_in_order}

-- one test after the other is both
pub both_tests : (p q : Row → Bool) (rows : List Row) → filter (λ row. p row && q row) rows ≡ filter q (filter p rows)
both_tests p q [] = refl
both_tests p q (row ∷ rows) = go (p row) (q row) refl refl (both_tests p q rows)
  where
    go : (a b : Bool) → p row ≡ a → q row ≡ b → filter (λ r. p r && q r) rows ≡ filter q (filter p rows)
        → cond (p row && q row) (row ∷ filter (λ r. p r && q r) rows) (filter (λ r. p r && q r) rows) ≡ filter q (cond (p row) (row ∷ filter p rows) (filter p rows))
    go true true pa qb rest = rw (pa, qb) (ap (λ (l : List Row). row ∷ l) rest)
    go true false pa qb rest = rw (pa, qb) rest
    go false b pa qb rest = rw pa rest

-- the rows of a range, found and then put in order
pub range_found : (table : ℕ) (low high : ℤ) (rows : List Row) → order_by is_before (filter (is_row_of_range table low high) rows) ≡ range_of table low high rows
range_found table low high rows =
    ap (order_by is_before) (both_tests (is_in_table table) (is_in_time_range low high) rows) ∙ sym (range_in_order table low high rows)

turned : (a b : ℕ) → eqb a b ≡ eqb b a
turned a b = grind (arith, nat_tests)

test_of_interval : (e : ℕ) (i : Interval) (row : Row) → is_of_interval e i row ≡ is_row_of_range 0 (interval_start e i) (interval_end e i) row
test_of_interval e i row =
    ap (λ (b : Bool). b && int_eq (interval_of e row.key.time) i.0) (turned row.table 0)
    ∙ ap (λ (b : Bool). is_in_table 0 row && b) (sym (tests_alike e i row))

-- the rows of an interval, found and then put in order
pub interval_found : (e : ℕ) (i : Interval) (rows : List Row) → order_by is_before (filter (is_of_interval e i) rows) ≡ rows_of_interval e i (items_of rows)
interval_found e i rows =
    ap (order_by is_before) (filter_agree (is_of_interval e i) (is_row_of_range 0 (interval_start e i) (interval_end e i)) (test_of_interval e i) rows)
    ∙ range_found 0 (interval_start e i) (interval_end e i) rows ∙ ap (range_of 0 (interval_start e i) (interval_end e i)) (sym (rows_of_rows rows))
