use Rattle.std.proofs.Common.{◌≡◌, ◌≤◌, ◌-◌, length, drop}
use Rattle.std.specs.Prelude.{IfSome}
use Rattle.replay_merge.specs.RowSource.{UsedRowSource}
use Rattle.replay_merge.specs.Fetch.{wanted_in}
use Rattle.replay_merge.proofs.fetch.fetch.Given as goal

abbrev pub invariant-loop-read : goal.invariant-loop-read
invariant-loop-read g l = record {
  within : l.read ≤ length l.parts;
  used : UsedRowSource (g.R.RowSource.state l.fn.source) (g.R.RowSource.state l.source);
  calm : (g.R.RowSource.state l.source).faults ≡ (g.R.RowSource.state l.fn.source).faults;
  left : g.R.RowSource.leaves l.fn.source l.source;
  passed : IfSome (g.R.RowSource.state l.fn.source).history (λ history. wanted_in l.wanted l.parts history ≡ wanted_in l.wanted (drop l.read l.parts) history);
}

abbrev pub decreases-loop-read : goal.decreases-loop-read
decreases-loop-read g l = length l.parts - l.read
