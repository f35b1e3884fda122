use Rattle.std.proofs.Common.{refl}
use Rattle.yarch_table.proofs.laws.from_first_is_all.Goals as goal

pub returns : goal.returns
returns c table history = refl
