use Rattle.std.proofs.Common.{◌≡◌, ◌+◌, ◌≤◌, length}
use Rattle.live_session.specs.Outcome.{reported_of}
use Rattle.live_session.proofs.reported.reported_of.Given as goal

abbrev pub invariant-loop-end : goal.invariant-loop-end
invariant-loop-end l = record {
  reported : reported_of l.number l.end-iterator.rest.items l.fn.others.items ≡ reported_of l.fn.link l.fn.ends.items l.fn.others.items;
  few : l.number + length l.end-iterator.rest.items ≤ 256;
}
