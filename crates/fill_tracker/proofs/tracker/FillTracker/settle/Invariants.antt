use Rattle.std.proofs.Common.{ℕ, ◌≡◌, List, length}
use Rattle.history_items.specs.FillList.{flights_of}
use Rattle.history_items.specs.declared.items.Item.{Item}
use Rattle.fill_tracker.specs.FillTracker.{AreMarksOf}
use Rattle.interval_fills.specs.Steps.{all_freed}
use Rattle.fill_tracker.proofs.tracker.FillTracker.settle.Given as goal

abbrev pub invariant-loop-interval : goal.invariant-loop-interval
invariant-loop-interval l = record {
  settles : all_freed l.self.fills ≡ all_freed l.initial.self.fills;
  marks : (exponent : ℕ) (history : List Item) → AreMarksOf exponent history l.initial.self.fills l.initial.self.marks → AreMarksOf exponent history l.self.fills l.self.marks;
}

abbrev pub decreases-loop-interval : goal.decreases-loop-interval
decreases-loop-interval l = length (flights_of l.self.fills)
