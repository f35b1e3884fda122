use Rattle.container_extract.proofs.Chains as chains
use Rattle.container_extract.proofs.laws.chain_is_one.Goals as goal

pub returns : goal.returns
returns c = chains.chain_is_one
