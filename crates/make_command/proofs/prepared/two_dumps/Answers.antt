use Rattle.make_command.specs.Made.{two_dumps}
use Rattle.make_command.proofs.prepared.two_dumps.Goals as goal

pub returns : goal.returns
unfolding two_dumps
returns c = c.make.ensures
