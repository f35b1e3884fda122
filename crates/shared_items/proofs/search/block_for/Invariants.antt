use Rattle.std.proofs.Common.{◌<◌, ◌≤◌, ◌-◌, length, take, drop, map}
use Rattle.std.specs.Arc.{arc_value}
use Rattle.shared_items.specs.Blocks.{items_of_blocks}
use Rattle.shared_items.specs.Order.{AllAbove, AllBelow}
use Rattle.shared_items.proofs.search.block_for.Given as goal

abbrev pub invariant-loop-high : goal.invariant-loop-high
invariant-loop-high g l = record {
  order : l.low < l.high;
  within : l.high ≤ length l.blocks;
  before : AllBelow g.T.Numbered.number_of l.number (items_of_blocks (take l.low (map arc_value l.blocks)));
  behind : AllAbove g.T.Numbered.number_of l.number (items_of_blocks (drop l.high (map arc_value l.blocks)));
}

abbrev pub decreases-loop-high : goal.decreases-loop-high
decreases-loop-high g l = l.high - l.low
