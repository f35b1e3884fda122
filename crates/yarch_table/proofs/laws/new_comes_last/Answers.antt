use Rattle.yarch_table.proofs.Histories.{new-placed}
use Rattle.yarch_table.proofs.laws.new_comes_last.Goals as goal

pub returns : goal.returns
returns c = new-placed
