use Rattle.time_text.proofs.DayFacts.{day_name_is}
use Rattle.time_text.proofs.laws.day_name_is_of_day.Goals as goal

pub returns : goal.returns
returns c = day_name_is
