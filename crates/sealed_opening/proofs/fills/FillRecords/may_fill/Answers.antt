use Rattle.std.proofs.Common.{true≢false, sym, ◌∙◌, arith}
use Rattle.sealed_opening.proofs.fills.FillRecords.may_fill.Goals as goal

pub returns-then-base-self : goal.returns-then-base-self
returns-then-base-self c = (λ some. absurd (true≢false (sym some)), λ may. absurd (omega (arith, may.0, c.if-base-self.true)))

pub returns : goal.returns
returns c = (
  λ some. (omega (arith, c.if-base-self.false), sym c.last.ensures.rows ∙ sym c.is_some.ensures ∙ some),
  λ may. c.is_some.ensures ∙ c.last.ensures.rows ∙ may.1,
)
