use Rattle.sealed_images.proofs.LogReads.{log_reads}
use Rattle.sealed_images.proofs.laws.log_reads.Goals as goal

pub returns : goal.returns
returns c = log_reads
