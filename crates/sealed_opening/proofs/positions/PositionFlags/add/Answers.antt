use Rattle.std.proofs.Common.{inl, inr, length, refl, sym, ◌∙◌, true≢false, arith}
use Rattle.std.proofs.lemmas.Bool.{cases_lt}
use Rattle.sealed_opening.proofs.ToldPositions.{flag_broken, flag_noted}
use Rattle.sealed_opening.proofs.positions.PositionFlags.add.Goals as goal

pub returns-in-Some : goal.returns-in-Some
returns-in-Some c limit told are =
    let kept = c.args.self.now in
    let item = c.in-Some.ensures.item in
    flag_broken limit c.args.position told kept _ are refl (λ on. inr (sym (item.3.1 _) ∙ c.if-get_mut.true))

pub returns-in-Some-2 : goal.returns-in-Some-2
returns-in-Some-2 c limit told are =
    let kept = c.args.self.now in
    let item = c.in-Some.ensures.item in
    flag_noted limit c.args.position told kept _ are item.3.0 (sym (item.3.1 _) ∙ c.if-get_mut.false) refl refl

pub returns-in-None : goal.returns-in-None
returns-in-None c limit told are =
    let kept = c.args.self.now in
    flag_broken limit c.args.position told kept _ are refl
    (λ on. inl (elim (cases_lt c.args.position (length kept.flags.items)) [ inl lt ↦ absurd (true≢false (sym (c.in-None.ensures.variant.1 (omega (arith, lt, kept.flags.ok.0))))) | inr le ↦ le ]))
