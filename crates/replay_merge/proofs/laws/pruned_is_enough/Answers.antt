use Rattle.replay_merge.proofs.Bounds.{pruned_is_enough}
use Rattle.replay_merge.proofs.laws.pruned_is_enough.Goals as goal

pub returns : goal.returns
returns c = pruned_is_enough
