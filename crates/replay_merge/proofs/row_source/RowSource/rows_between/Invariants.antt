use Rattle.std.proofs.Common.{◌≡◌, take}
use Rattle.std.specs.Prelude.{IfSome}
use Rattle.std.specs.List.{AllByRecursion}
use Rattle.arch_types.specs.Table.{range_of}
use Rattle.replay_merge.specs.RowSource.{IsRowBetween, UsedRowSource}
use Rattle.replay_merge.proofs.Gathered.{IsToldHistory}
use Rattle.replay_merge.proofs.Tied.{by_parts}
use Rattle.replay_merge.proofs.row_source.RowSource.rows_between.Given as goal

abbrev pub invariant-loop-partition : goal.invariant-loop-partition
invariant-loop-partition g l = record {
  used : UsedRowSource (g.Self.RowSource.state l.fn.self) (g.Self.RowSource.state l.self);
  calm : (g.Self.RowSource.state l.self).faults ≡ (g.Self.RowSource.state l.fn.self).faults;
  left : g.Self.RowSource.leaves l.fn.self l.self;
  rows : IfSome (g.Self.RowSource.state l.fn.self).history (λ history.
      l.rows.items ≡ by_parts (take l.partition-index l.parts) (range_of l.table l.from l.to (history l.front)));
  each : AllByRecursion (IsRowBetween l.table l.parts l.from l.to) l.rows.items;
  given : AllByRecursion (g.Self.RowSource.state l.fn.self).may_give l.rows.items;
  told : IsToldHistory (g.Self.RowSource.state l.fn.self).history l.rows.items;
}
