use Rattle.seal_codec.proofs.SealSpelling.{seals_once}
use Rattle.seal_codec.proofs.laws.seals_are_one.Goals as goal

pub returns : goal.returns
returns c = seals_once
