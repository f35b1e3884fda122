use Rattle.std.proofs.Common.{◌≡◌, ◌∙◌, ap, subst}
use Rattle.std.specs.Prelude.{IfOk}
use Rattle.partitions.specs.declared.bounds.Bounds.{Bounds}
use Rattle.ssql_conditions.specs.ConditionBounds.{bounding}
use Rattle.ssql_conditions.specs.Formulas.{meaning_of}
use Rattle.ssql_conditions.proofs.Meanings.{pieces_mean}
use Rattle.ssql_conditions.proofs.bounds.bounds.Goals as goal

pub returns : goal.returns
returns c =
    subst (λ (b : Bounds). IfOk c.pieces_bounds.result (λ bounds. bounds ≡ b))
    (pieces_mean bounding c.pieces.result.now ∙ ap (meaning_of bounding) c.pieces.ensures.formula) c.pieces_bounds.ensures
