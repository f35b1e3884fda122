use Rattle.time_text.proofs.ReadingFacts.{is_fraction-long}
use Rattle.time_text.proofs.reading.is_fraction.Goals as goal

pub returns-then-text-gt4 : goal.returns-then-text-gt4
returns-then-text-gt4 c = is_fraction-long c.args.text.now c.if-text-gt4.true
