use Rattle.std.proofs.Common.{◌≡◌, take, ◌++◌, List}
use Rattle.std.specs.Prelude.{map}
use Rattle.arch_types.specs.declared.row.Row.{Row}
use Rattle.history_items.specs.declared.items.Item.{Item}
use Rattle.replay_merge.specs.RowSource.{UsedRowSource}
use Rattle.archive_store.specs.Batches.{in_table}
use Rattle.archive_store.specs.Classifying.{IsClassified, NoneAbove, TellsItems}
use Rattle.archive_store.proofs.classifying.classify_arrival.Given as goal

abbrev pub invariant-loop-table : goal.invariant-loop-table
invariant-loop-table g l = record {
  used : UsedRowSource (g.R.RowSource.state l.fn.source) (g.R.RowSource.state l.source);
  calm : (g.R.RowSource.state l.source).faults ≡ (g.R.RowSource.state l.fn.source).faults;
  left : g.R.RowSource.leaves l.fn.source l.source;
  classified : (items : List Item) (rows : List Row) → TellsItems (g.R.RowSource.state l.fn.source) items l.known → IsClassified items rows l.fn.classified
      → IsClassified items (rows ++ map (in_table l.arrival.row) (take l.table-index l.arrival.tables)) l.classified;
  last : NoneAbove l.classified.last l.classified.fresh;
}
