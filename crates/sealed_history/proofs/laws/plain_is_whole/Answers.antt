use Rattle.sealed_history.proofs.Whole.{plain_is_whole}
use Rattle.sealed_history.proofs.laws.plain_is_whole.Goals as goal

pub returns : goal.returns
returns c = plain_is_whole
