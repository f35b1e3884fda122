use Rattle.std.proofs.Common.{inl, inr, refl, sym}
use Rattle.sealed_opening.proofs.SealsBehind.{none_last, split_last}
use Rattle.sealed_opening.proofs.zero.last_of.Goals as goal

pub returns-in-Some : goal.returns-in-Some
returns-in-Some c =
    let split = split_last c.args.seals.now c.in-Some.last.now (sym c.in-Some.ensures.value) in
    inr (split.0, c.in-Some.last.now, split.1, refl, refl)

pub returns-in-None : goal.returns-in-None
returns-in-None c = inl (none_last c.args.seals.now (sym c.in-None.ensures.value), refl, refl)
