use Rattle.container_extract.proofs.Extracting.{extraction_keeps_rules}
use Rattle.container_extract.proofs.laws.extraction_keeps_rules.Goals as goal

pub returns : goal.returns
returns c = extraction_keeps_rules
