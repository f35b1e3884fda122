use Rattle.time_text.proofs.DayFacts.{day_is}
use Rattle.time_text.proofs.laws.day_is.Goals as goal

pub returns : goal.returns
returns c = day_is
