use Rattle.container_extract.proofs.Paths.{chain_is_short}
use Rattle.container_extract.proofs.laws.chain_is_short.Goals as goal

pub returns : goal.returns
returns c = chain_is_short
