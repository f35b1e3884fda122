use Rattle.std.proofs.Common.{refl}
use Rattle.param_segments.proofs.RunSteps.{no_runs}
use Rattle.param_segments.proofs.runs.Runs.none.Goals as goal

pub returns : goal.returns
returns c = no_runs _ c.new.ensures refl c.new-2.ensures.items
