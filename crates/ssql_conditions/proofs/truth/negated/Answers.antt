use Rattle.ssql_conditions.proofs.Negations.{even_nots, odd_nots}
use Rattle.ssql_conditions.proofs.truth.negated.Goals as goal

pub returns-then-nots-eq0 : goal.returns-then-nots-eq0
returns-then-nots-eq0 c = even_nots c.args.nots c.args.value c.if-nots-eq0.true

pub returns-else-nots-eq0 : goal.returns-else-nots-eq0
returns-else-nots-eq0 c = odd_nots c.args.nots c.args.value c.if-nots-eq0.false
