use Rattle.std.proofs.Common.{◌≡◌}
use Rattle.mdb_items.specs.Paths.{path_at, paths_of, stands_on}
use Rattle.mdb_rules.proofs.Ancestry.{steps_left}
use Rattle.mdb_rules.proofs.container_rows.Containers.stands_on.Given as goal

abbrev pub invariant-up : goal.invariant-up
invariant-up l = stands_on (path_at (paths_of l.self.items.items) l.at).entries l.parameter ≡ stands_on (path_at (paths_of l.self.items.items) l.fn.number).entries l.parameter

abbrev pub decreases-up : goal.decreases-up
decreases-up l = steps_left l.at
