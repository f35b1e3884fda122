use Rattle.load_jobs.proofs.OneLink.{fault_is_of_the_batch}
use Rattle.load_jobs.proofs.laws.fault_is_of_the_batch.Goals as goal

pub returns : goal.returns
returns g c = fault_is_of_the_batch _ g.D.Disk.device
