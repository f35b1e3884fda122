use Rattle.std.proofs.Common.{[]}
use Rattle.mdb_items.specs.ContainerRows.{rows_of_container}
use Rattle.mdb_rules.specs.Totals.{HasPaths}
use Rattle.mdb_model.proofs.RowsAgain.{Left}
use Rattle.mdb_model.proofs.rechecking.rechecked_containers.Given as goal

abbrev pub invariant-loop-c : goal.invariant-loop-c
invariant-loop-c l = HasPaths l.parameters l.containers × Left l.parameters rows_of_container [] l.given l.containers.items.items l.c-index
