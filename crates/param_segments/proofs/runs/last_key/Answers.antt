use Rattle.std.proofs.Common.{subst, sym}
use Rattle.param_segments.specs.Runs.{IsLast}
use Rattle.param_segments.proofs.KeyPlaces.{last_is}
use Rattle.param_segments.proofs.runs.last_key.Goals as goal

pub returns : goal.returns
returns c = let keys = c.args.segment.now.keys in subst (IsLast keys) (sym c.last.ensures) (last_is keys c.requires.some_rows)
