use Rattle.command_laws.proofs.Verified.{verified}
use Rattle.command_laws.proofs.laws.verify_clause.Goals as goal

pub returns : goal.returns
returns g c = λ e files clock run. verified g.D.Disk.device e files clock run
