use Rattle.container_extract.proofs.Extracting.{value_is_calibrated}
use Rattle.container_extract.proofs.laws.value_is_calibrated.Goals as goal

pub returns : goal.returns
returns c = value_is_calibrated
