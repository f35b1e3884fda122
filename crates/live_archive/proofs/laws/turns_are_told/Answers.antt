use Rattle.live_archive.proofs.Turning.{told}
use Rattle.live_archive.proofs.laws.turns_are_told.Goals as goal

pub returns : goal.returns
returns g c = told g.D.Disk.device
