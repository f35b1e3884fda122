use Rattle.std.proofs.Common.{◌≡◌, ◌≤◌, length, true}
use Rattle.std.specs.List.{AllAdjacentBelow}
use Rattle.fill_tracker.specs.FillTracker.{are_of_one_interval}
use Rattle.fill_tracker.proofs.tracker.run_len.Given as goal

abbrev pub invariant-loop-i : goal.invariant-loop-i
invariant-loop-i l = record {
  low : 1 ≤ l.i;
  within : l.i ≤ length l.rows;
  run : AllAdjacentBelow (λ row next. are_of_one_interval l.exponent row next ≡ true) l.rows l.i;
}
