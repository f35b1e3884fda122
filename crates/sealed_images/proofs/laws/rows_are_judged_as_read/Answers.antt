use Rattle.sealed_images.proofs.AsRead.{judged_as_read}
use Rattle.sealed_images.proofs.laws.rows_are_judged_as_read.Goals as goal

pub returns : goal.returns
returns c = judged_as_read
