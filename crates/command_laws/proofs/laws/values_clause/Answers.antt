use Rattle.command_laws.proofs.Valued.{valued}
use Rattle.command_laws.proofs.laws.values_clause.Goals as goal

pub returns : goal.returns
returns g c = λ e files clock words run. valued g.D.Disk.device e files clock words run
