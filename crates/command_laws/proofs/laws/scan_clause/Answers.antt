use Rattle.command_laws.proofs.Scanned.{scanned}
use Rattle.command_laws.proofs.laws.scan_clause.Goals as goal

pub returns : goal.returns
returns g c = λ e files clock name run. scanned g.D.Disk.device e files clock name run
