use Rattle.container_extract.proofs.Known.{chain_is_known}
use Rattle.container_extract.proofs.laws.chain_is_known.Goals as goal

pub returns : goal.returns
returns c = chain_is_known
