use Rattle.load_jobs.proofs.Closing.{a_fault_is_the_one}
use Rattle.load_jobs.proofs.laws.a_fault_is_the_one.Goals as goal

pub returns : goal.returns
returns g c = a_fault_is_the_one g.D.Disk.device
