use Rattle.std.proofs.Common.{◌≡◌, ◌++◌}
use Rattle.archive_store.proofs.history_source.copies_of.Given as goal

-- the copies so far, and the rows that are left
abbrev pub invariant-loop-row : goal.invariant-loop-row
invariant-loop-row l = l.copies.items ++ l.row-iterator ≡ l.fn.rows
