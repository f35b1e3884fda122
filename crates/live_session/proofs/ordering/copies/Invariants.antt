use Rattle.std.proofs.Common.{◌-◌, ◌≤◌, vec_len}
use Rattle.live_session.proofs.ordering.copies.Given as goal

abbrev pub invariant-loop-copies : goal.invariant-loop-copies
invariant-loop-copies g l = vec_len l.copies ≤ l.count

abbrev pub decreases-loop-copies : goal.decreases-loop-copies
decreases-loop-copies g l = l.count - vec_len l.copies
