use Rattle.std.proofs.Common.{◌≡◌, ◌*◌, [], length}
use Rattle.archive_store.specs.Pages.{TellsRows}
use Rattle.turn_cell.specs.Pass.{IsFree}
use Rattle.load_session.specs.Receiving.{receiving}
use Rattle.load_jobs.specs.Underway.{AreAhead, IsWithinLimitWith}
use Rattle.load_jobs.proofs.Underway.{SendsTo}
use Rattle.load_jobs.proofs.sending.send_ahead.Given as goal

abbrev pub invariant-batches : goal.invariant-batches
invariant-batches g l = record {
  free : IsFree l.live.cell l.pass;
  ahead : AreAhead (receiving l.reception.head.now [] l.reception.graph.now l.reception.link l.reception.moment) l.batch-iterator.rest.items;
  within : IsWithinLimitWith (64 * length l.batch-iterator.rest.items) l.progress;
  waiting : l.progress.splitter ≡ l.fn.progress.splitter;
  in_hand : l.progress.taken ≡ l.fn.progress.taken;
  on : SendsTo (TellsRows g.D.Disk.device l.live.cell.first.store) (receiving l.reception.head.now [] l.reception.graph.now l.reception.link l.reception.moment) l.fn.ahead.items l.batch-iterator.rest.items l.fn.pass l.pass l.fn.progress l.progress;
}
