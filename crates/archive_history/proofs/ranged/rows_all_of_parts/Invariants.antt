use Rattle.std.proofs.Common.{◌≡◌, ◌++◌, length}
use Rattle.std.specs.Prelude.{filter}
use Rattle.partitions.specs.Rows.{is_of_parts}
use Rattle.archive_history.proofs.ranged.rows_all_of_parts.Given as goal

abbrev pub invariant-loop-row : goal.invariant-loop-row
invariant-loop-row l = l.rows ++ filter (is_of_parts l.parts) l.range ≡ filter (is_of_parts l.parts) l.initial.range

abbrev pub decreases-loop-row : goal.decreases-loop-row
decreases-loop-row l = length l.range
