use Rattle.command_laws.proofs.Selected.{selected}
use Rattle.command_laws.proofs.laws.sql_clause.Goals as goal

pub returns : goal.returns
returns g c = λ e files clock name run. selected g.D.Disk.device e files clock name run
