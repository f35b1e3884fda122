use Rattle.std.proofs.Common.{refl}
use Rattle.partitions.proofs.laws.rows_may_stand.Goals as goal

pub returns : goal.returns
returns c = λ bounds time pname is. record { day = (time, is.from, is.to, refl); name = is.name }
