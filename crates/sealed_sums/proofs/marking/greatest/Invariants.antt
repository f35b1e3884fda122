use Rattle.std.proofs.Common.{ℕ, ◌<◌, ◌≤◌}
use Rattle.std.specs.Prelude.{Contains, slice_index_or}
use Rattle.sealed_sums.proofs.marking.greatest.Given as goal

abbrev pub invariant-loop-position : goal.invariant-loop-position
invariant-loop-position l = record {
  there : Contains l.positions l.last;
  each : (k d : ℕ) → k < l.position-index → slice_index_or l.positions k d ≤ l.last;
}
