use Rattle.mdb_model.proofs.Structure.{structured}
use Rattle.mdb_model.proofs.laws.structure.Goals as goal

pub returns : goal.returns
returns c = λ d is. structured d is
