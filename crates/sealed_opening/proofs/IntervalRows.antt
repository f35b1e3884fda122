-- Which intervals have a row among rows at positions.
use Rattle.std.proofs.Common.{◌≡◌, ℕ, zero, suc, List, [], ◌∷◌, map, Bool, true, false, true≢false, Option, Some, None, refl, sym, ◌∙◌, ap, arith, int_eq}
use Rattle.std.specs.Prelude.{◌==◌, slice_get}
use Rattle.std.specs.Option.{is_some}
use Rattle.std.proofs.lemmas.Bool.{and_parts}
use Rattle.std.proofs.lemmas.Bool.Decides.{Decides-int_eq, nat_tests}
use Rattle.arch_types.specs.declared.row.Row.{Row}
use Rattle.intervals.specs.Interval.{interval_of}
use Rattle.intervals.specs.declared.interval.Interval.{Interval}
use Rattle.history_items.specs.declared.fills.Fill.{Fill}
use Rattle.history_items.specs.Items.{is_of_interval, items_of, row_item}
use Rattle.history_items.specs.Late.{HasRow}
use Rattle.late_marks.specs.declared.mark.Mark.{Mark}
use Rattle.late_marks.specs.Marks.{Marks, has_rows}
use Rattle.fill_tracker.specs.FillTracker.{mark_by}
use Rattle.fill_tracker.specs.Placed.{AreMarksOfPlaced, last_placed}

-- the rows without their positions
abbrev pub rows_behind : List (ℕ × Row) → List Row
rows_behind placed = map (λ (at : ℕ × Row). at.1) placed

module _ (e : ℕ) (i : Interval) where
  first_row : (row : Row) (rows : List Row) → is_of_interval e i row ≡ true → HasRow e i (items_of (row ∷ rows))
  first_row row rows is =
      let parts = and_parts (row.table == 0) (int_eq (interval_of e row.key.time) i.0) is in
      record {
        position = 0;
        stands = record { row = row; there = refl; table = (let t = parts.0 in grind (arith, nat_tests, t)); time = (Decides-int_eq (interval_of e row.key.time) i.0).0 parts.1 };
      }

  later_row : (row : Row) (rows : List Row) → HasRow e i (items_of rows) → HasRow e i (items_of (row ∷ rows))
  later_row row rows has = record {
    position = suc has.position;
    stands = record { row = has.stands.row; there = has.stands.there; table = has.stands.table; time = has.stands.time };
  }

  pub some_row : (placed : List (ℕ × Row)) → is_some (last_placed e i placed) ≡ true → HasRow e i (items_of (rows_behind placed))
  some_row [] some = absurd (true≢false (sym some))
  some_row (at ∷ placed) some = by (is_of_interval e i at.1) refl (some_row placed)
    where
      by : (b : Bool) → is_of_interval e i at.1 ≡ b → (is_some (last_placed e i placed) ≡ true → HasRow e i (items_of (rows_behind placed))) → HasRow e i (items_of (rows_behind (at ∷ placed)))
      by true is rest = first_row at.1 (rows_behind placed) is
      by false is rest = later_row at.1 (rows_behind placed) (rest (rw is at some))

  of_interval : (position : ℕ) (row : Row) → row.table ≡ 0 → interval_of e row.key.time ≡ i.0 → is_of_interval e i row ≡ true
  of_interval position row table time = rw (table, time) ((Decides-int_eq i.0 i.0).1 refl)

  row_at_some : (placed : List (ℕ × Row)) (position : ℕ) (row : Row) → slice_get (items_of (rows_behind placed)) position ≡ Some (row_item row) → row.table ≡ 0 → interval_of e row.key.time ≡ i.0 → is_some (last_placed e i placed) ≡ true
  row_at_some [] position row there table time = absurd cc
  row_at_some (at ∷ placed) zero row there table time =
      let same : at.1 ≡ row = cc in
      let is : is_of_interval e i at.1 ≡ true = ap (is_of_interval e i) same ∙ of_interval 0 row table time in
      rw is refl
  row_at_some (at ∷ placed) (suc position) row there table time = by (is_of_interval e i at.1) refl (row_at_some placed position row there table time)
    where
      by : (b : Bool) → is_of_interval e i at.1 ≡ b → is_some (last_placed e i placed) ≡ true → is_some (last_placed e i (at ∷ placed)) ≡ true
      by true is rest = rw is refl
      by false is rest = rw is rest

  pub row_some : (placed : List (ℕ × Row)) → HasRow e i (items_of (rows_behind placed)) → is_some (last_placed e i placed) ≡ true
  row_some placed has = row_at_some placed has.position has.stands.row has.stands.there has.stands.table has.stands.time

  marked : (last base : Option ℕ) (taken : Bool) → is_some (mark_by last base taken) ≡ is_some last
  marked None base taken = refl
  marked (Some last) base taken = refl

  -- the marks have an interval just where it has a row
  pub marks_have : (placed : List (ℕ × Row)) (fills : List Fill) (marks : Marks) → AreMarksOfPlaced e placed fills marks → has_rows marks i ≡ is_some (last_placed e i placed)
  marks_have placed fills marks are = ap (λ (m : Option Mark). is_some m) (are.each i) ∙ marked (last_placed e i placed) _ _
