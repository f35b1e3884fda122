use Rattle.std.proofs.Common.{length}
use Rattle.time_text.proofs.DigitFacts.{below_pow}
use Rattle.time_text.proofs.digits.number.Goals as goal

pub returns-clause-bound : goal.returns-clause-bound
returns-clause-bound c =
    below_pow c.in_ok-n.n (length c.args.text.now) (rw c.in_ok-n.was at c.number_of.ensures.small) (rw c.in_ok-n.was at c.number_of.ensures.short)
