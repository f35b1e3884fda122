use Rattle.std.proofs.Common.{◌≡◌, ◌<◌, ◌++◌, length}
use Rattle.std.specs.List.{AllByRecursion}
use Rattle.archive_history.specs.PartitionedTable.{rows_at_places}
use Rattle.archive_history.proofs.partitioned_table.rows_of_places.Given as goal

abbrev pub invariant-loop-place : goal.invariant-loop-place
invariant-loop-place l = record {
  inside : AllByRecursion (λ place. place < length l.table.stored) l.places;
  so_far : l.rows.items ++ rows_at_places l.table.stored l.front l.places ≡ rows_at_places l.table.stored l.front l.initial.places;
}

abbrev pub decreases-loop-place : goal.decreases-loop-place
decreases-loop-place l = length l.places
