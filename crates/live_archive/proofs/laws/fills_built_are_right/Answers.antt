use Rattle.live_archive.proofs.Built.{built_right, right_stays}
use Rattle.live_archive.proofs.laws.fills_built_are_right.Goals as goal

pub returns : goal.returns
returns g c = record { built = built_right _ g.D.Disk.device; later = right_stays _ g.D.Disk.device }
