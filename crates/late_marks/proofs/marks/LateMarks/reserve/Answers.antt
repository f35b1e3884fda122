use Rattle.std.proofs.Common.{◌≡◌, ◌+◌, length, arith}
use Rattle.late_marks.proofs.LateFree.{AreConsistent-reserved}
use Rattle.late_marks.proofs.marks.LateMarks.reserve.Goals as goal

pub invariant_of-self-2 : goal.invariant_of-self-2
invariant_of-self-2 c =
    let all : c.in-Some.all ≡ length c.self.inside.marks.entries + c.args.intervals = omega (arith, c.in-Some.ensures.1, c.len.ensures.count) in
    AreConsistent-reserved c.self.inside.marks c.reserve-2.new.self c.self.inside.late_free c.reserve.new.self c.args.intervals c.reserve-2.result c.self.invariant (rw all at c.in_ok-reserve.ensures.ok) c.reserve-2.ensures.ok c.reserve-2.ensures.err
