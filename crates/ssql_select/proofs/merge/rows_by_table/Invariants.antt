use Rattle.std.proofs.Common.{◌≡◌, take}
use Rattle.std.specs.Prelude.{IfSome}
use Rattle.std.specs.List.{AllByRecursion}
use Rattle.replay_merge.specs.RowSource.{IsKeyedRow, UsedRowSource}
use Rattle.ssql_select.specs.Selection.{rows_between_of}
use Rattle.ssql_select.proofs.merge.rows_by_table.Given as goal

abbrev pub invariant-loop-table : goal.invariant-loop-table
invariant-loop-table g l = record {
  used : UsedRowSource (g.R.RowSource.state l.fn.source) (g.R.RowSource.state l.source);
  calm : (g.R.RowSource.state l.source).faults ≡ (g.R.RowSource.state l.fn.source).faults;
  left : g.R.RowSource.leaves l.fn.source l.source;
  rows : IfSome (g.R.RowSource.state l.fn.source).history (λ history.
      l.rows.items ≡ rows_between_of (take l.table-index l.tables) l.parts l.bounds.from l.bounds.to (history l.front));
  given : AllByRecursion (g.R.RowSource.state l.fn.source).may_give l.rows.items;
  each : AllByRecursion IsKeyedRow l.rows.items;
}
