use Rattle.command_laws.proofs.LoadClause.{loads}
use Rattle.command_laws.proofs.laws.load_clause.Goals as goal

pub returns : goal.returns
returns g c = λ e files clock words run. loads g.D.Disk.device e files clock words run
