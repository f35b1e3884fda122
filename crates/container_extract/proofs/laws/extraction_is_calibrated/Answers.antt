use Rattle.container_extract.proofs.Extracting.{extraction_is_calibrated}
use Rattle.container_extract.proofs.laws.extraction_is_calibrated.Goals as goal

pub returns : goal.returns
returns c = extraction_is_calibrated
