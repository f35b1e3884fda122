use Rattle.load_command.proofs.RouteTables.{tm_below}
use Rattle.load_command.proofs.opened.every_packet.Goals as goal

pub returns-in-Ok-clause-over : goal.returns-in-Ok-clause-over
returns-in-Ok-clause-over g c = rw c.in-Ok.ensures (tm_below c.args.store.now.head c.is_kept.ensures.head.0.first)
