use Rattle.std.proofs.Common.{◌≡◌, ◌+◌, [], length}
use Rattle.archive_store.specs.Pages.{TellsRows}
use Rattle.turn_cell.specs.Pass.{IsFree}
use Rattle.load_session.specs.Receiving.{receiving}
use Rattle.load_jobs.specs.Underway.{IsInHand, IsWithinLimit}
use Rattle.load_jobs.proofs.Underway.{GoesOnTo}
use Rattle.load_jobs.proofs.sending.send_waiting.Given as goal

abbrev pub invariant-rounds : goal.invariant-rounds
invariant-rounds g l = record {
  free : IsFree l.live.cell l.pass;
  in_hand : IsInHand (receiving l.reception.head.now [] l.reception.graph.now l.reception.link l.reception.moment) l.progress.taken;
  within : IsWithinLimit l.progress;
  level : l.progress.splitter.at + length l.progress.splitter.octets ≡ l.fn.progress.splitter.at + length l.fn.progress.splitter.octets;
  on : GoesOnTo (TellsRows g.D.Disk.device l.live.cell.first.store) (receiving l.reception.head.now [] l.reception.graph.now l.reception.link l.reception.moment) l.fn.pass l.pass l.fn.progress l.progress;
}

abbrev pub decreases-rounds : goal.decreases-rounds
decreases-rounds g l = length l.progress.splitter.octets + l.progress.taken.packets
