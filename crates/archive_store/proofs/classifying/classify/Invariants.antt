use Rattle.std.proofs.Common.{◌≡◌, take, List}
use Rattle.std.specs.List.{flat_map}
use Rattle.history_items.specs.declared.items.Item.{Item}
use Rattle.replay_merge.specs.RowSource.{UsedRowSource}
use Rattle.archive_store.specs.Batches.{arrival_rows}
use Rattle.archive_store.specs.Classifying.{IsClassified, NoneAbove, TellsItems}
use Rattle.archive_store.proofs.classifying.classify.Given as goal

abbrev pub invariant-loop-arrival : goal.invariant-loop-arrival
invariant-loop-arrival g l = record {
  used : UsedRowSource (g.R.RowSource.state l.fn.source) (g.R.RowSource.state l.source);
  calm : (g.R.RowSource.state l.source).faults ≡ (g.R.RowSource.state l.fn.source).faults;
  left : g.R.RowSource.leaves l.fn.source l.source;
  classified : (items : List Item) → TellsItems (g.R.RowSource.state l.fn.source) items l.known → IsClassified items (flat_map arrival_rows (take l.arrival-index l.batch.arrivals)) l.classified;
  last : NoneAbove l.classified.last l.classified.fresh;
}
