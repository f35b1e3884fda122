use Rattle.std.proofs.Common.{refl}
use Rattle.stream_graph.proofs.laws.every_packet_reaches_tm.Goals as goal

pub returns : goal.returns
returns c = λ row. refl
