use Rattle.std.proofs.Common.{◌≡◌, ◌+◌, ◌≤◌, ◌++◌, length, map, vec_len, vec_capacity}
use Rattle.live_session.proofs.running.take_apart.Given as goal

abbrev pub invariant-loop-one : goal.invariant-loop-one
invariant-loop-one g l = record {
  passes : l.passes.items ++ map (λ one. one.pass) l.left.rest.items ≡ l.fn.passes.items ++ map (λ one. one.pass) l.fn.done.items;
  ends : l.ends.items ++ map (λ one. one.end) l.left.rest.items ≡ l.fn.ends.items ++ map (λ one. one.end) l.fn.done.items;
  room : vec_len l.passes + length l.left.rest.items ≤ vec_capacity l.passes;
  ends_room : vec_len l.ends + length l.left.rest.items ≤ vec_capacity l.ends;
}

abbrev pub decreases-loop-one : goal.decreases-loop-one
decreases-loop-one g l = length l.left.rest.items
