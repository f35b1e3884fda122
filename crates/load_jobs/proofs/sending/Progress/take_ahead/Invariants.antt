use Rattle.std.proofs.Common.{◌≡◌, ◌-◌, [], vec_len}
use Rattle.load_session.specs.Receiving.{receiving}
use Rattle.load_jobs.specs.Underway.{CountsStay, TakesAhead}
use Rattle.load_jobs.proofs.sending.Progress.take_ahead.Given as goal

abbrev pub invariant-batches : goal.invariant-batches
invariant-batches l = record {
  received : l.self.taken.batch.rectime ≡ l.reception.moment;
  ahead : TakesAhead (receiving l.reception.head.now [] l.reception.graph.now l.reception.link l.reception.moment) l.fn.self l.self l.ahead.items;
  counts : CountsStay l.fn.self l.self;
}

abbrev pub decreases-batches : goal.decreases-batches
decreases-batches l = 32 - vec_len l.ahead
