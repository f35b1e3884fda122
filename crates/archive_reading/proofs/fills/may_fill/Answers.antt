use Rattle.std.proofs.Common.{◌≤◌, length, true≢false, sym, ◌∙◌, arith}
use Rattle.archive_reading.proofs.Fillable.{stored_by, stored_has}
use Rattle.archive_reading.proofs.fills.may_fill.Goals as goal

pub returns-then-base-count-clause-based : goal.returns-then-base-count-clause-based
returns-then-base-count-clause-based c = (λ some. absurd (true≢false (sym some)), λ based. absurd (omega (arith, based.within, c.if-base-count.true, c.len-count.ensures.len)))

pub returns-clause-based : goal.returns-clause-based
returns-clause-based c =
    let made = c.args.made.now in
    let items = made.history.items in
    let within : c.args.base ≤ length items = omega (arith, c.if-base-count.false, c.len-count.ensures.len) in
    let last = c.last.ensures.last made.history.exponent items c.requires.1 in (
      λ some. stored_by made.history.exponent items c.args.interval c.args.base c.last.result last within (sym c.is_some.ensures ∙ some),
      λ based. c.is_some.ensures ∙ stored_has made.history.exponent items c.args.interval c.args.base c.last.result last based,
    )

pub returns-clause-rows : goal.returns-clause-rows
returns-clause-rows c some = sym c.last.ensures.rows ∙ sym c.is_some.ensures ∙ some
