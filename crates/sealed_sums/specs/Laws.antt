-- What the sums and the marks of rows at positions have to do with a history.
use Rattle.std.specs.Prelude.{◌≡◌, ℕ, List, map}
use Rattle.arch_types.specs.declared.row.Row.{Row}
use Rattle.intervals.specs.declared.interval.Interval.{Interval}
use Rattle.history_items.specs.declared.fills.Fill.{Fill}
use Rattle.history_items.specs.Items.{items_of}
use Rattle.history_items.specs.Late.{last_in}
use Rattle.late_marks.specs.Marks.{Marks}
use Rattle.fill_tracker.specs.FillTracker.{AreMarksOf}
use Rattle.fill_tracker.specs.Placed.{AreMarksOfPlaced, last_placed}
use Rattle.sealed_sums.specs.InOrder.{AreInOrder}
use Rattle.sealed_sums.specs.Sums.{AreSumsOf, SumsView}

-- the greatest position of an interval's rows is that of its last row in the order of positions
abbrev pub LastPlacedIsLast : Type 0
LastPlacedIsLast = (exponent : ℕ) (interval : Interval) (placed : List (ℕ × Row)) (rows : List Row) → AreInOrder placed rows →
    last_placed exponent interval placed ≡ last_in exponent interval (items_of rows)

-- so the marks of rows at positions are those of the rows in that order
abbrev pub PlacedMarksAreMarks : Type 0
PlacedMarksAreMarks = (exponent : ℕ) (placed : List (ℕ × Row)) (rows : List Row) (fills : List Fill) (marks : Marks) →
    AreInOrder placed rows → AreMarksOfPlaced exponent placed fills marks → AreMarksOf exponent (items_of rows) fills marks

-- the sums of rows at positions are those of the rows in that order
abbrev pub PlacedSumsAreSums : Type 0
PlacedSumsAreSums = (placed : List (ℕ × Row)) (rows : List Row) (sums : SumsView) → AreInOrder placed rows →
    AreSumsOf (map (λ at. at.1) placed) sums → AreSumsOf rows sums
