use Rattle.command_laws.proofs.Created.{created}
use Rattle.command_laws.proofs.laws.create_clause.Goals as goal

pub returns : goal.returns
returns g c = λ e files clock words run. created g.D.Disk.device e files clock words run
