use Rattle.std.proofs.Common.{◌≡◌, ℕ, ◌<◌}
use Rattle.param_segments.specs.Cells.{set_cells}
use Rattle.archive_verify.proofs.compared_sets.set_difference.Given as goal

abbrev pub invariant-loop-parameter : goal.invariant-loop-parameter
invariant-loop-parameter l = (q : ℕ) → q < l.parameter → set_cells l.mdb q l.stored ≡ set_cells l.mdb q l.replayed
