use Rattle.shared_history.proofs.Sending.{sent_stays}
use Rattle.shared_history.proofs.laws.sent_stays.Goals as goal

pub returns : goal.returns
returns c = sent_stays
