use Rattle.arch_types.proofs.InOrder.{order_same}
use Rattle.yarch_table.specs.Index.{comes_before}
use Rattle.yarch_table.proofs.laws.walk_has_each.Goals as goal

pub returns : goal.returns
returns c = order_same comes_before
