use Rattle.live_fills.proofs.Late.{fills_of_late}
use Rattle.live_fills.proofs.laws.fills_are_of_late_intervals.Goals as goal

pub returns : goal.returns
returns g c = record { fills = fills_of_late g.D.Disk.device }
