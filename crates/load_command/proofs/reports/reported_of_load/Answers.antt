use Rattle.std.proofs.Common.{refl}
use Rattle.load_command.proofs.reports.reported_of_load.Goals as goal

-- a job was refused
pub returns-in-Some-clause-reported : goal.returns-in-Some-clause-reported
returns-in-Some-clause-reported c = rw c.in-Some.is refl

-- each late interval is filled
pub returns-in-Ok-clause-nothing : goal.returns-in-Ok-clause-nothing
returns-in-Ok-clause-nothing c = rw (c.in-None.is, c.in-Ok.is) (_, refl)

-- one isn't
pub returns-in-Err-clause-reported : goal.returns-in-Err-clause-reported
returns-in-Err-clause-reported c = rw (c.in-None.is, c.in-Err.is) (refl, refl)
