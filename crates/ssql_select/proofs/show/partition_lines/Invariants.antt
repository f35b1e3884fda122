use Rattle.std.proofs.Common.{◌≡◌, take}
use Rattle.std.specs.Prelude.{IfSome}
use Rattle.replay_merge.specs.RowSource.{UsedRowSource}
use Rattle.ssql_select.specs.ShowText.{partition_lines}
use Rattle.ssql_select.proofs.show.partition_lines.Given as goal

abbrev pub invariant-loop-partition : goal.invariant-loop-partition
invariant-loop-partition g l = record {
  used : UsedRowSource (g.R.RowSource.state l.fn.source) (g.R.RowSource.state l.source);
  calm : (g.R.RowSource.state l.source).faults ≡ (g.R.RowSource.state l.fn.source).faults;
  left : g.R.RowSource.leaves l.fn.source l.source;
  lines : IfSome (g.R.RowSource.state l.fn.source).history (λ history. l.lines.items ≡ partition_lines l.table (history l.front) (take l.partition-index l.parts));
}
