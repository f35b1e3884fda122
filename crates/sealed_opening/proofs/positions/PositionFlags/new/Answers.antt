use Rattle.std.proofs.Common.{ℕ, false, replicate, refl, ◌∙◌, ap}
use Rattle.sealed_opening.proofs.ToldPositions.{none_told, not_too_many}
use Rattle.sealed_opening.proofs.positions.PositionFlags.new.Goals as goal
use Rattle.sealed_opening.proofs.positions.PositionFlags.new.Goals.{then-few, else-few}

pub returns : goal.returns
returns c =
    none_told c.args.limit _ refl (λ on. elim c.if-few.branch [ then-few w ↦ c.in_ok-flags.ensures.items_if_clones_equal (λ y e. e) ∙ ap (λ (n : ℕ). replicate n false) w.len-is | else-few w ↦ absurd (not_too_many c.args.limit on w.if-few.false) ])
