use Rattle.std.proofs.Common.{subst}
use Rattle.param_segments.specs.Rows.{AreSetRows}
use Rattle.param_segments.proofs.builder.SetBuilder.rows_are_sound.Goals as goal

pub returns : goal.returns
returns c = subst AreSetRows c.self.view_is c.self.invariant.rows
