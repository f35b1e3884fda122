use Rattle.yarch_table.proofs.ByKey.{rows-by_key}
use Rattle.yarch_table.proofs.laws.walk_is_table.Goals as goal

pub returns : goal.returns
returns c = rows-by_key
