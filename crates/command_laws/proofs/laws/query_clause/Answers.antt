use Rattle.command_laws.proofs.Queried.{queried}
use Rattle.command_laws.proofs.laws.query_clause.Goals as goal

pub returns : goal.returns
returns g c = λ e files clock name run. queried g.D.Disk.device e files clock name run
