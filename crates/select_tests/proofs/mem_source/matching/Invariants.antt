use Rattle.std.proofs.Common.{◌≡◌, take}
use Rattle.std.specs.Prelude.{filter}
use Rattle.select_tests.specs.MemSource.{is_in_table_and_partition}
use Rattle.select_tests.proofs.mem_source.matching.Given as goal

abbrev pub invariant-loop-row : goal.invariant-loop-row
invariant-loop-row l = l.found.items ≡ filter (is_in_table_and_partition l.table l.partition) (take l.row-index l.rows)
