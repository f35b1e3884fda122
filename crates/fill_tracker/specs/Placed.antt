-- The marks of rows whose positions are known, before the rows are a history.
use Rattle.std.specs.Prelude.{◌≡◌, ℕ, suc, List, [], ◌∷◌, max, Option, Some, None, true, if◌then◌else◌}
use Rattle.std.specs.List.{AllByRecursion}
use Rattle.std.specs.Option.{is_some}
use Rattle.intervals.specs.declared.interval.Interval.{Interval}
use Rattle.arch_types.specs.declared.row.Row.{Row}
use Rattle.history_items.specs.declared.fills.Fill.{Fill}
use Rattle.history_items.specs.Fills.{base_in, in_flight}
use Rattle.history_items.specs.Items.{is_of_interval}
use Rattle.late_marks.specs.Marks.{Marks, mark_of}
use Rattle.fill_tracker.specs.FillTracker.{FillTrackerView, mark_by}

-- the greatest of a position and another one, if there is one
abbrev pub greatest : ℕ → Option ℕ → ℕ
greatest position None = position
greatest position (Some other) = max position other

-- the greatest position of an interval's rows, where it has one among rows at positions
abbrev pub last_placed : ℕ → Interval → List (ℕ × Row) → Option ℕ
last_placed exponent interval [] = None
last_placed exponent interval (at ∷ placed) =
    if is_of_interval exponent interval at.1
    then Some (greatest at.0 (last_placed exponent interval placed))
    else last_placed exponent interval placed

-- the marks are those of rows at positions and of these fills, and an interval without rows was neither filled nor is it in flight
pub record AreMarksOfPlaced (exponent : ℕ) (placed : List (ℕ × Row)) (fills : List Fill) (marks : Marks) : Type 0 where
  pub each : (i : Interval) →
      mark_of marks i ≡ mark_by (last_placed exponent i placed) (base_in i fills) (is_some (in_flight i fills))
  pub known : (i : Interval) →
      last_placed exponent i placed ≡ None → (base_in i fills ≡ None) × (in_flight i fills ≡ None)

-- the marks are those of all rows at positions of which they were before, whatever their intervals' exponent
abbrev pub KeepsMarksOfPlaced : FillTrackerView → FillTrackerView → Type 0
KeepsMarksOfPlaced old new =
    (exponent : ℕ) (placed : List (ℕ × Row)) →
    AreMarksOfPlaced exponent placed old.fills old.marks → AreMarksOfPlaced exponent placed new.fills new.marks

-- rows one behind the other, the first of them at this position
abbrev pub placed_from : ℕ → List Row → List (ℕ × Row)
placed_from first [] = []
placed_from first (row ∷ rows) = (first, row) ∷ placed_from (suc first) rows

-- rows at positions are all of one interval, and this is the greatest of the positions
pub record ArePlacedIn (exponent : ℕ) (interval : Interval) (run : List (ℕ × Row)) (last : ℕ) : Type 0 where
  pub of : AllByRecursion (λ at. is_of_interval exponent interval at.1 ≡ true) run
  pub last_is : last_placed exponent interval run ≡ Some last
