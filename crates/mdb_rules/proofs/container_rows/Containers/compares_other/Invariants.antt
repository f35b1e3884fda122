use Rattle.std.proofs.Common.{◌≡◌, false, take}
use Rattle.mdb_items.specs.ContainerRows.{compares_other}
use Rattle.mdb_items.specs.Paths.{path_at, paths_of}
use Rattle.mdb_rules.proofs.container_rows.Containers.compares_other.Given as goal

abbrev pub invariant-loop-comparison : goal.invariant-loop-comparison
invariant-loop-comparison l = compares_other (path_at (paths_of l.self.items.items) l.number).entries (take l.comparison-index l.comparisons) ≡ false
