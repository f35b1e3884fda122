use Rattle.container_extract.proofs.Known.{packet_name_is_known}
use Rattle.container_extract.proofs.laws.packet_name_is_known.Goals as goal

pub returns : goal.returns
returns c = packet_name_is_known
