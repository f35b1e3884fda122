use Rattle.std.proofs.Common.{sym, ◌∙◌, arith}
use Rattle.archive_core.proofs.Bases.{base_is, base_back}
use Rattle.archive_core.proofs.fill_events.is_fill_base.Goals as goal

pub returns-then-base-rows : goal.returns-then-base-rows
returns-then-base-rows c = (
  λ yes. base_is c.args.exponent c.args.interval c.args.base c.args.rows.now (omega (arith, c.if-base-rows.true)) (sym c.has_row_below.ensures ∙ yes),
  λ is. c.has_row_below.ensures ∙ (base_back c.args.exponent c.args.interval c.args.base c.args.rows.now is).1,
)
