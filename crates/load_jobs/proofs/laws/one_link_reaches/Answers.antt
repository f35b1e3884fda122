use Rattle.load_jobs.proofs.OneLink.{one_link_reaches}
use Rattle.load_jobs.proofs.laws.one_link_reaches.Goals as goal

pub returns : goal.returns
returns g c = one_link_reaches _ g.D.Disk.device
