use Rattle.shared_history.proofs.Sending.{batch_is_sent}
use Rattle.shared_history.proofs.laws.batch_is_sent.Goals as goal

pub returns : goal.returns
returns c = batch_is_sent
