use Rattle.archive_images.proofs.SealMoments.{seal_moments}
use Rattle.archive_images.proofs.laws.seal_leaves.Goals as goal

pub returns : goal.returns
returns g c = seal_moments g.D.Disk.device
