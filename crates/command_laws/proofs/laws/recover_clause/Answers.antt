use Rattle.command_laws.proofs.Recovered.{recovered}
use Rattle.command_laws.proofs.laws.recover_clause.Goals as goal

pub returns : goal.returns
returns g c = λ e files clock run. recovered g.D.Disk.device e files clock run
