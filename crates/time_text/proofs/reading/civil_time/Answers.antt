use Rattle.time_text.proofs.ReadingFacts.{civil_time-short}
use Rattle.time_text.proofs.reading.civil_time.Goals as goal

pub returns-then-text-lt19 : goal.returns-then-text-lt19
returns-then-text-lt19 c = civil_time-short c.args.text.now c.if-text-lt19.true
