use Rattle.std.proofs.Common.{refl}
use Rattle.load_session.proofs.laws.every_packet_goes_into_tm.Goals as goal

pub returns : goal.returns
returns c = λ head history link moment packets. refl
