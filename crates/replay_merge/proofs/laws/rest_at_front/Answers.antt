use Rattle.replay_merge.proofs.Opening.{rest_at_front}
use Rattle.replay_merge.proofs.laws.rest_at_front.Goals as goal

pub returns : goal.returns
returns c = rest_at_front
