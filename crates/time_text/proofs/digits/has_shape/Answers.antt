use Rattle.std.proofs.Common.{arith, sym}
use Rattle.std.proofs.lemmas.Bool.{false_from_ne_true}
use Rattle.std.proofs.lemmas.Grind.{common_steps}
use Rattle.time_text.proofs.DigitFacts.{has_shape_next, has_shape-length, has_shape_none}
use Rattle.time_text.proofs.digits.has_shape.Goals as goal

pub returns-then-shape-text : goal.returns-then-shape-text
returns-then-shape-text c =
    sym (false_from_ne_true _ (λ e. omega (arith, has_shape-length c.args.shape.now c.args.text.now e)))

pub returns-then-not-fits : goal.returns-then-not-fits
returns-then-not-fits c =
    let next = has_shape_next c.args.shape.now c.args.text.now c.loop-i.i (omega arith) (omega arith) in
    grind (arith, common_steps)

pub loop-i-preserved : goal.loop-i-preserved
loop-i-preserved c =
    let next = has_shape_next c.args.shape.now c.args.text.now c.loop-i.i (omega arith) (omega arith) in
    grind (arith, common_steps)

pub returns : goal.returns
returns c = grind (arith, common_steps, has_shape_none)
