use Rattle.std.proofs.Common.{◌≡◌, take}
use Rattle.std.specs.Prelude.{filter}
use Rattle.archive_core.specs.RowTests.{is_row_of_range}
use Rattle.archive_core.proofs.ordered.rows_in_range.Given as goal

abbrev pub invariant-loop-row : goal.invariant-loop-row
invariant-loop-row l = l.found.items ≡ filter (is_row_of_range l.table l.from l.to) (take l.row-index l.rows)
