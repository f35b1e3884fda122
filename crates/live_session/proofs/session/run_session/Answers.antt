use Rattle.std.proofs.Common.{refl}
use Rattle.live_session.proofs.Closing.{given_back}
use Rattle.live_session.proofs.session.run_session.Goals as goal

pub returns-in-Err-clause-not_begun : goal.returns-in-Err-clause-not_begun
returns-in-Err-clause-not_begun g c = (refl, given_back g.D.Disk.device c.args.store c.in-Err.store c.in-Err.ensures.back)
