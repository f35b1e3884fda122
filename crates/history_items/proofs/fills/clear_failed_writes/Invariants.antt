use Rattle.std.proofs.Common.{◌≡◌, ◌++◌, map, take, drop}
use Rattle.history_items.specs.Fills.{cleared}
use Rattle.history_items.proofs.fills.clear_failed_writes.Given as goal

abbrev pub invariant-loop-i : goal.invariant-loop-i
invariant-loop-i l = l.fills ≡ map cleared (take l.i l.initial.fills) ++ drop l.i l.initial.fills
