use Rattle.retrieval.proofs.PacketNames.{name_short}
use Rattle.retrieval.proofs.packet_text.octets_of.Goals as goal

pub returns-clause-short : goal.returns-clause-short
returns-clause-short c = name_short c.as_slice.result.now c.as_slice.ensures.name
