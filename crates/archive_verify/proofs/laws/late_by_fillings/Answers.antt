use Rattle.archive_verify.proofs.Counting.{late_by_bases}
use Rattle.archive_verify.proofs.laws.late_by_fillings.Goals as goal

pub returns : goal.returns
returns c = late_by_bases
