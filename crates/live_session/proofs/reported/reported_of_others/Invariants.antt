use Rattle.std.proofs.Common.{◌≡◌}
use Rattle.live_session.specs.Outcome.{reported_of_others}
use Rattle.live_session.proofs.reported.reported_of_others.Given as goal

abbrev pub invariant-loop-other : goal.invariant-loop-other
invariant-loop-other l = reported_of_others l.other-iterator.rest.items ≡ reported_of_others l.fn.others.items
