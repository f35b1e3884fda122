use Rattle.std.proofs.Common.{◌≡◌, ◌-◌, []}
use Rattle.load_session.specs.Batches.{HasTakenWaiting}
use Rattle.load_session.specs.Receiving.{receiving}
use Rattle.load_session.proofs.batches.take_waiting.Given as goal

abbrev pub invariant-loop-taken : goal.invariant-loop-taken
invariant-loop-taken l = record {
  taken : HasTakenWaiting (receiving l.head [] l.graph l.fn.link l.initial.taken.batch.rectime) l.initial.splitter l.splitter l.initial.taken l.taken;
  received : l.taken.batch.rectime ≡ l.initial.taken.batch.rectime;
}

abbrev pub decreases-loop-taken : goal.decreases-loop-taken
decreases-loop-taken l = 64 - l.taken.packets
