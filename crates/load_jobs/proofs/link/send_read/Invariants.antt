use Rattle.std.proofs.Common.{◌≡◌, ◌+◌, ◌≤◌, ℕ, List, [], length, vec_len}
use Rattle.outer_traits.specs.Outside.{Stays}
use Rattle.outer_traits.specs.Whole.{IsTaken}
use Rattle.refusals.specs.Limits.{limit_of}
use Rattle.refusals.specs.declared.refusal.Which.TheVariants.{DumpOctets}
use Rattle.space_packet.specs.declared.dump.Why.TheVariants as why
use Rattle.space_packet.specs.Rest.{why_of}
use Rattle.archive_store.specs.Pages.{TellsRows}
use Rattle.turn_cell.specs.Pass.{IsFree}
use Rattle.load_session.specs.Receiving.{receiving}
use Rattle.load_jobs.specs.Underway.{IsBetweenReads, IsInHand, IsWithinLimit}
use Rattle.load_jobs.proofs.link.send_read.Given as goal

abbrev pub invariant-pieces : goal.invariant-pieces
invariant-pieces g l = record {
  over : 1 ≤ vec_len l.over;
  free : IsFree l.live.cell l.pass;
  in_hand : IsInHand (receiving l.reception.head.now [] l.reception.graph.now l.reception.link l.reception.moment) l.progress.taken;
  within : IsWithinLimit l.progress;
  room : l.room + (l.progress.splitter.at + length l.progress.splitter.octets) ≡ limit_of DumpOctets;
  read : (read : List ℕ) × IsTaken (g.S.Source.state l.fn.source).left read (g.S.Source.state l.source).left
      × IsBetweenReads (TellsRows g.D.Disk.device l.live.cell.first.store) (receiving l.reception.head.now l.fn.pass.history.seen l.reception.graph.now l.reception.link l.reception.moment) read l.fn.pass l.pass l.progress;
  no_fault : Stays (g.S.Source.state l.fn.source).faults (g.S.Source.state l.source).faults;
  reliable : (g.S.Source.state l.fn.source).never_fails → (g.S.Source.state l.source).never_fails × Stays (g.S.Source.state l.fn.source).faults (g.S.Source.state l.source).faults;
  no_version : why_of l.progress.splitter.octets ≡ why.Version → ⊥;
}

abbrev pub decreases-pieces : goal.decreases-pieces
decreases-pieces g l = l.room
