use Rattle.std.proofs.Common.{◌≡◌, ◌<◌, length}
use Rattle.std.specs.List.{AllByRecursion}
use Rattle.archive_store_tests.proofs.parts.tables_of.Given as goal

abbrev pub invariant-loop-table : goal.invariant-loop-table
invariant-loop-table l = (length l.list ≡ l.table-index) × AllByRecursion (λ table. table < length l.head.tables) l.list
