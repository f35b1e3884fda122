use Rattle.std.proofs.Common.{◌<◌, length, arith}
use Rattle.mdb_lookups.proofs.ByNumber.{one_more_child}
use Rattle.mdb_lookups.proofs.numbered_children.by_number.Goals as goal

pub loop-child-preserved : goal.loop-child-preserved
loop-child-preserved c =
    let lt : c.loop-child.child-index < length c.args.children.now = omega arith in
    one_more_child c.args.conditions.now c.args.children.now c.loop-child.child-index c.loop-child.numbered c.push.new.self c.number_at.result lt c.loop-child.invariant
    c.number_at.ensures c.push.ensures.place c.in_ok-push.ensures.by_number c.in_ok-push.ensures.others
