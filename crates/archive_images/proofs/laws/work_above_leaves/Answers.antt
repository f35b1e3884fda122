use Rattle.archive_images.proofs.SealMoments.{work_above}
use Rattle.archive_images.proofs.laws.work_above_leaves.Goals as goal

pub returns : goal.returns
returns g c = work_above g.D.Disk.device
