use Rattle.std.proofs.Common.{◌≤◌, ◌-◌, length, take, drop, map}
use Rattle.std.specs.Arc.{arc_value}
use Rattle.shared_items.specs.Order.{AllBelow, AllFrom}
use Rattle.shared_items.proofs.search.place_of.Given as goal

abbrev pub invariant-loop-low : goal.invariant-loop-low
invariant-loop-low g l = record {
  order : l.low ≤ l.high;
  within : l.high ≤ length l.items;
  below : AllBelow g.T.Numbered.number_of l.number (map arc_value (take l.low l.items));
  from : AllFrom g.T.Numbered.number_of l.number (map arc_value (drop l.high l.items));
}

abbrev pub decreases-loop-low : goal.decreases-loop-low
decreases-loop-low g l = l.high - l.low
