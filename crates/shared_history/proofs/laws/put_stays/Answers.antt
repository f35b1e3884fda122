use Rattle.shared_history.proofs.Putting.{put_stays}
use Rattle.shared_history.proofs.laws.put_stays.Goals as goal

pub returns : goal.returns
returns c = put_stays
