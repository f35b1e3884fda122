use Rattle.std.proofs.Common.{◌≡◌, drop}
use Rattle.arch_types.specs.History.{is_duplicate_of}
use Rattle.archive_core.proofs.Ingested.{first_from}
use Rattle.archive_core.proofs.ingests.place_of_key.Given as goal

abbrev pub invariant-loop-i : goal.invariant-loop-i
invariant-loop-i l = first_from (is_duplicate_of l.row) l.i (drop l.i l.rows) ≡ first_from (is_duplicate_of l.row) 0 l.rows
