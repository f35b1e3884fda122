use Rattle.dump_maker.proofs.Made.{made_is_split}
use Rattle.dump_maker.proofs.laws.made_dumps_are_split.Goals as goal

pub returns : goal.returns
returns c = made_is_split
