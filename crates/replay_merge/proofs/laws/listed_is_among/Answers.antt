use Rattle.replay_merge.proofs.Bounds.{listed_is_among}
use Rattle.replay_merge.proofs.laws.listed_is_among.Goals as goal

pub returns : goal.returns
returns c = listed_is_among
