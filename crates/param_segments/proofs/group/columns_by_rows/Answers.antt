use Rattle.std.proofs.Common.{◌∙◌, ◌++◌, ◌∷◌, [], List, ℤ, ap}
use Rattle.param_segments.proofs.Columns.{column_step, columns_done}
use Rattle.param_segments.proofs.group.columns_by_rows.Goals as goal

pub loop-from-preserved : goal.loop-from-preserved
loop-from-preserved c =
    column_step c.args.width c.args.count c.loop-from.from c.args.raws.now c.loop-from.columns c.push.new.self c.loop-from-test.true c.requires
    (c.in_ok-push.ensures.ok ∙ ap (λ (x : List ℤ). c.loop-from.columns ++ x ∷ []) (c.from_vec.ensures ∙ c.in_ok-every_nth.ensures)) c.loop-from.invariant

pub returns : goal.returns
returns c = c.loop-from.invariant ∙ columns_done c.args.width c.args.count c.loop-from.from c.args.raws.now c.requires c.loop-from-test.false
