use Rattle.std.proofs.Common.{◌∙◌}
use Rattle.ssql_conditions.proofs.Negations.{no_nots, some_nots}
use Rattle.ssql_conditions.proofs.bounds.negated.Goals as goal

pub returns-then-nots-eq0 : goal.returns-then-nots-eq0
returns-then-nots-eq0 c = no_nots c.args.nots c.args.bounds c.if-nots-eq0.true

pub returns-else-nots-eq0 : goal.returns-else-nots-eq0
returns-else-nots-eq0 c = c.all_bounds.ensures ∙ some_nots c.args.nots c.args.bounds c.if-nots-eq0.false
