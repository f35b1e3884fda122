use Rattle.live_asks.proofs.Sees.{noted_of, silent_of}
use Rattle.live_asks.proofs.reader.answers_by.Goals as goal

pub returns-clause-asked : goal.returns-clause-asked
returns-clause-asked g c = rw c.err.ensures.value c.answer_asks-answer.ensures.asked

pub returns-clause-noted : goal.returns-clause-noted
returns-clause-noted g c = rw c.err.ensures.value (noted_of c.answer_asks-answer.result c.answer_asks-answer.ensures.noted)

pub returns-clause-silent : goal.returns-clause-silent
returns-clause-silent g c = rw c.err.ensures.value (silent_of c.answer_asks-answer.result c.answer_asks-answer.ensures.silent)
