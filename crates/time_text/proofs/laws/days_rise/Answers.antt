use Rattle.time_text.proofs.DayFacts.{days_rise}
use Rattle.time_text.proofs.laws.days_rise.Goals as goal

pub returns : goal.returns
returns c = days_rise
