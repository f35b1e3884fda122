use Rattle.shared_history.proofs.Own.{rows_of_a_link}
use Rattle.shared_history.proofs.laws.rows_of_a_link.Goals as goal

pub returns : goal.returns
returns c = rows_of_a_link
