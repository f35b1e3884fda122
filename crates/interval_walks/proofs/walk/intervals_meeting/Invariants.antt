use Rattle.std.proofs.Common.{◌≡◌, ◌≤ℤ◌, true}
use Rattle.std.specs.Prelude.{◌+ℤ◌, pos}
use Rattle.std.specs.Int.{int_gap}
use Rattle.std.specs.List.{AllByRecursion}
use Rattle.late_marks.specs.Marks.{has_rows}
use Rattle.interval_walks.specs.Turns.{IntervalsRise}
use Rattle.interval_walks.proofs.Covering.{AllBelow, AllBetween, CoversTo}
use Rattle.interval_walks.proofs.walk.intervals_meeting.Given as goal

abbrev pub invariant-loop-interval : goal.invariant-loop-interval
invariant-loop-interval l = record {
  rising : IntervalsRise l.intervals.items;
  below : AllBelow l.intervals.items l.at.0;
  rows : AllByRecursion (λ i. has_rows l.tracker.marks i ≡ true) l.intervals.items;
  later : l.initial.at.0 ≤ℤ l.at.0;
  between : AllBetween l.initial.at.0 l.last.0 l.intervals.items;
  covers : CoversTo l.tracker.marks l.initial.at.0 l.at.0 l.intervals.items;
}

abbrev pub decreases-loop-interval : goal.decreases-loop-interval
decreases-loop-interval l = int_gap l.at.0 (l.last.0 +ℤ pos 1)
