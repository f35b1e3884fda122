use Rattle.time_text.proofs.MomentFacts.{time_text_read}
use Rattle.time_text.proofs.laws.time_text_is_read.Goals as goal

pub returns : goal.returns
returns c = time_text_read
