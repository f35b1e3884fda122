use Rattle.container_extract.proofs.Extracting.{raw_extraction_keeps_rules}
use Rattle.container_extract.proofs.laws.raw_extraction_keeps_rules.Goals as goal

pub returns : goal.returns
returns c = raw_extraction_keeps_rules
