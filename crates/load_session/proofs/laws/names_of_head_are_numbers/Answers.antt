use Rattle.load_session.proofs.NameNumbers.{alone_number}
use Rattle.load_session.proofs.laws.names_of_head_are_numbers.Goals as goal

pub returns : goal.returns
returns c = alone_number
