use Rattle.std.proofs.Common.{◌≡◌, ◌++◌, map, take}
use Rattle.mdb_lookups.proofs.placed_conditions.parameters_below.Given as goal

abbrev pub invariant-loop-entry : goal.invariant-loop-entry
invariant-loop-entry l = l.parameters.items ≡ l.above ++ map (λ e. e.parameter) (take l.entry-index l.entries)
