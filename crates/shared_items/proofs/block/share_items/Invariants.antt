use Rattle.std.proofs.Common.{◌≡◌, ◌++◌, take, map}
use Rattle.std.specs.Arc.{arc_value}
use Rattle.shared_items.proofs.block.share_items.Given as goal

abbrev pub invariant-loop-item : goal.invariant-loop-item
invariant-loop-item g l = map arc_value l.to.items ≡ map arc_value l.fn.to.items ++ map arc_value (take l.item-index l.items)
