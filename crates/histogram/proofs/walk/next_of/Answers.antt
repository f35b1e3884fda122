use Rattle.std.proofs.Common.{arith}
use Rattle.histogram.proofs.Ahead.{none_from}
use Rattle.histogram.proofs.walk.next_of.Goals as goal

pub returns-else-last-pname-clause-none : goal.returns-else-last-pname-clause-none
returns-else-last-pname-clause-none c =
    none_from c.args.pname c.in_ok-last.field-0.now c.args.entries.now c.next.new.self c.requires c.in_ok-last.ensures.steps (λ e. omega (arith, c.if-last-pname.false, e))
