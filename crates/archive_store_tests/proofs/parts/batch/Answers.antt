use Rattle.std.proofs.Common.{rules}
use Rattle.archive_store_tests.proofs.parts.batch.Goals as goal

pub returns : goal.returns
returns c = λ history. record { few = c.in_ok-arrivals.ensures.few; rectime = search rules; each = c.in_ok-arrivals.ensures.each history }
