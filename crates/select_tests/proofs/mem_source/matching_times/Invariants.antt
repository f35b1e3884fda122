use Rattle.std.proofs.Common.{◌≡◌, take}
use Rattle.std.specs.Prelude.{filter}
use Rattle.select_tests.specs.MemSource.{is_in_table_and_range}
use Rattle.select_tests.proofs.mem_source.matching_times.Given as goal

abbrev pub invariant-loop-row : goal.invariant-loop-row
invariant-loop-row l = l.found.items ≡ filter (is_in_table_and_range l.table l.from l.to) (take l.row-index l.rows)
