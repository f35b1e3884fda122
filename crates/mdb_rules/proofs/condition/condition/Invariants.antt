use Rattle.std.proofs.Common.{◌≡◌, length}
use Rattle.mdb_items.specs.Conditions.{all_of, comparison, condition, pieces}
use Rattle.std.proofs.Common.{map}
use Rattle.mdb_rules.proofs.Pieces.{joined}
use Rattle.mdb_rules.proofs.condition.condition.Given as goal

abbrev pub invariant-pieces : goal.invariant-pieces
invariant-pieces l = joined l.comparisons (all_of (map (comparison l.parameters) (pieces l.rest))) ≡ condition l.parameters l.fn.text

abbrev pub decreases-pieces : goal.decreases-pieces
decreases-pieces l = length l.rest
