use Rattle.std.proofs.Common.{◌+◌, ◌-◌, ◌≤◌, ◌^◌, vec_len, vec_capacity}
use Rattle.std.specs.List.{AllByRecursion}
use Rattle.turn_cell.specs.Pass.{IsFree}
use Rattle.turn_passes.specs.Passes.{AreSplitOff}
use Rattle.turn_passes.proofs.passes.split_off.Given as goal

-- some were split off, and the share lasts for those that are left
abbrev pub invariant-splits : goal.invariant-splits
invariant-splits g l = record {
  few : l.left ≤ l.count;
  free : IsFree l.cell l.pass;
  others : AllByRecursion (IsFree l.cell) l.passes.items;
  room : vec_len l.passes + l.left ≤ vec_capacity l.passes;
  share : 2 ^ l.left ≤ l.pass.share;
  split : AreSplitOff l.fn.pass l.pass l.fn.passes.items l.passes.items (l.count - l.left);
}

abbrev pub decreases-splits : goal.decreases-splits
decreases-splits g l = l.left
