use Rattle.std.proofs.Common.{◌∙◌, sym}
use Rattle.container_extract.proofs.Names.{name_else, name_then}
use Rattle.container_extract.proofs.containers.name_along.Goals as goal
use Rattle.container_extract.proofs.containers.name_along.Goals.{then-is_archived, else-is_archived}

pub loop-number-preserved : goal.loop-number-preserved
loop-number-preserved c =
    let containers = c.args.containers.now in
    let chain = c.args.chain.now in
    let i = c.loop-number.number-index in
    elim c.if-is_archived.branch [
      | then-is_archived w ↦ w.name-is ∙ sym (name_then containers chain i c.loop-number-test.true (sym c.is_archived.ensures ∙ w.if-is_archived.true))
      | else-is_archived w ↦ w.name-is ∙ c.loop-number.invariant ∙ sym (name_else containers chain i c.loop-number-test.true (sym c.is_archived.ensures ∙ w.if-is_archived.false))
    ]
