-- What contracts see of a fill tracker, and how its marks go with a history.
use Rattle.std.specs.Prelude.{◌≡◌, ◌==◌, ◌&&◌, ℕ, ◌-◌, List, Option, Some, None, Bool, true, length, vec_len, vec_capacity}
use Rattle.std.specs.Global.{Vec}
use Rattle.std.specs.List.{AllAdjacentBelow}
use Rattle.std.specs.Option.{is_some}
use Rattle.std.specs.Ordering.{int_eq}
use Rattle.intervals.specs.declared.interval.Interval.{Interval}
use Rattle.arch_types.specs.declared.row.Row.{Row}
use Rattle.intervals.specs.Interval.{interval_of}
use Rattle.history_items.specs.declared.fills.Fill.{Fill}
use Rattle.history_items.specs.declared.items.Item.{Item}
use Rattle.history_items.specs.Fills.{base_in, in_flight}
use Rattle.history_items.specs.Late.{last_in}
use Rattle.late_marks.specs.declared.mark.Mark.{Mark}
use Rattle.late_marks.specs.Marks.{Marks, mark_of}

-- what happened to fills, the marks, how many more items may be noted without memory beside the end of each flight, and
-- how many more flights may begin without memory
pub record FillTrackerView : Type 0 where
  pub fills : List Fill
  pub marks : Marks
  pub room : ℕ
  pub flight_room : ℕ

-- what contracts see of items, marks and flights
abbrev pub tracker_of : Vec Fill → Marks → Vec Interval → FillTrackerView
tracker_of items marks flights = record {
  fills = items.items;
  marks = marks;
  room = vec_capacity items - vec_len items - vec_len flights;
  flight_room = vec_capacity flights - vec_len flights;
}

-- the mark of an interval by its last change, the base of its last fill, and whether it is in flight
abbrev pub mark_by : Option ℕ → Option ℕ → Bool → Option Mark
mark_by None base taken = None
mark_by (Some last) base taken = Some (record { last = last; base = base; taken = taken })

-- the marks are those of this history and these fills, and an interval without rows was neither filled nor is it in
-- flight
pub record AreMarksOf (exponent : ℕ) (history : List Item) (fills : List Fill) (marks : Marks) : Type 0 where
  pub each : (i : Interval) →
      mark_of marks i ≡ mark_by (last_in exponent i history) (base_in i fills) (is_some (in_flight i fills))
  pub known : (i : Interval) →
      last_in exponent i history ≡ None → (base_in i fills ≡ None) × (in_flight i fills ≡ None)

-- the marks are those of each history of which they were before, whatever its intervals' exponent
abbrev pub KeepsMarks : FillTrackerView → FillTrackerView → Type 0
KeepsMarks old new =
    (exponent : ℕ) (history : List Item) →
    AreMarksOf exponent history old.fills old.marks → AreMarksOf exponent history new.fills new.marks

-- whether two rows are of one table and of one interval
abbrev pub are_of_one_interval : ℕ → Row → Row → Bool
are_of_one_interval exponent row other = (row.table == other.table) && int_eq (interval_of exponent row.key.time) (interval_of exponent other.key.time)

-- a run: each row and the next are of one table and of one interval
abbrev pub AreOfOneInterval : ℕ → List Row → Type 0
AreOfOneInterval exponent rows = AllAdjacentBelow (λ row next. are_of_one_interval exponent row next ≡ true) rows (length rows)
