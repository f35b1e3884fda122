use Rattle.std.proofs.Common.{sym, ◌∙◌, arith}
use Rattle.archive_core.proofs.Lasts.{none_at_all, none_after_last}
use Rattle.archive_core.proofs.fill_events.last_since.Goals as goal

pub returns-in-None-clause-none : goal.returns-in-None-clause-none
returns-in-None-clause-none c = none_at_all c.args.exponent c.args.interval c.args.base c.args.rows.now (sym c.last_in.ensures ∙ c.in-None.is)

pub returns-else-base-last-clause-none : goal.returns-else-base-last-clause-none
returns-else-base-last-clause-none c = none_after_last c.args.exponent c.args.interval c.args.base c.in-Some.last c.args.rows.now (sym c.last_in.ensures ∙ c.in-Some.is) (omega (arith, c.if-base-last.false))
