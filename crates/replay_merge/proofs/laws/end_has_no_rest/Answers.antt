use Rattle.replay_merge.proofs.Opening.{end_no_rest}
use Rattle.replay_merge.proofs.laws.end_has_no_rest.Goals as goal

pub returns : goal.returns
returns c = end_no_rest
