use Rattle.std.proofs.Common.{◌≡◌, drop}
use Rattle.retrieval.specs.FoundAsks.{AreFound}
use Rattle.turn_cell.specs.Pass.{IsFree}
use Rattle.live_asks.specs.LiveAsks.{LooksOn, OnlySees, every_fourth, reader_view}
use Rattle.live_asks.proofs.Each.{AreAskedSoFar}
use Rattle.live_asks.proofs.reader.answer_asks.Given as goal

abbrev pub invariant-loop-ask : goal.invariant-loop-ask
invariant-loop-ask g l = record {
  free : IsFree l.live.cell l.pass;
  sees : OnlySees l.live.cell.first.store.sealed l.fn.pass l.pass;
  silent : l.pass.fills.places ≡ l.fn.pass.fills.places;
  looks : LooksOn l.fn.glance l.glance;
  found : AreFound l.live.cell.first.store.head l.live.cell.first.store.history (drop l.ask-index l.asks);
  asked : AreAskedSoFar g.D.Disk.device l.live.cell.first.store l.glance (reader_view l.fn.pass l.fn.steps) (reader_view l.pass l.steps) (every_fourth l.before l.asks) (drop l.ask-index l.asks) l.skip l.answers;
}
