use Rattle.std.proofs.Common.{Bool, true≢false, refl, sym, ◌∙◌}
use Rattle.std.specs.Prelude.{not}
use Rattle.sealed_opening.proofs.ToldPositions.{all_by_flags, told_all}
use Rattle.sealed_opening.proofs.positions.PositionFlags.are_all.Goals as goal

pub returns-then-self : goal.returns-then-self
returns-then-self c limit told are =
    all_by_flags limit told c.args.self.now c.deref.result.now c.contains.result _ c.contains.ensures.value c.deref.ensures.value refl refl are c.if-self.true

pub returns-else-self : goal.returns-else-self
returns-else-self c limit told are = ((λ said. absurd (true≢false (sym said ∙ c.if-self.false))), λ all. (told_all limit told c.args.self.now (λ (f : Bool). not f) refl are all).0)
