use Rattle.command_laws.proofs.Made.{make_done}
use Rattle.command_laws.proofs.laws.make_clause.Goals as goal

pub returns : goal.returns
returns g c = λ e files clock seed run. make_done g.D.Disk.device e files clock seed run
