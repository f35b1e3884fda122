use Rattle.std.proofs.Common.{◌≡◌, ◌++◌, drop}
use Rattle.std.specs.Prelude.{flat_map, option_to_list}
use Rattle.ssql_conditions.proofs.bounds.known_names.Given as goal

abbrev pub invariant-loop-number : goal.invariant-loop-number
invariant-loop-number l = (l.names ++ flat_map option_to_list (drop l.number-index l.numbers)) ≡ flat_map option_to_list l.numbers
