use Rattle.shared_history.proofs.Sending.{one_link_ingests}
use Rattle.shared_history.proofs.laws.one_link_ingests.Goals as goal

pub returns : goal.returns
returns c = one_link_ingests
