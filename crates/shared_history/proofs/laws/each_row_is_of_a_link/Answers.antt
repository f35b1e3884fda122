use Rattle.shared_history.proofs.Own.{each_row_is_of_a_link}
use Rattle.shared_history.proofs.laws.each_row_is_of_a_link.Goals as goal

pub returns : goal.returns
returns c = each_row_is_of_a_link
