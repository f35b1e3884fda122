use Rattle.std.proofs.Common.{◌≡◌, drop, None}
use Rattle.run_pages.specs.Index.{are_joined}
use Rattle.run_pages.proofs.index.are_joined.Given as goal

abbrev pub invariant-loop-entry : goal.invariant-loop-entry
invariant-loop-entry l = are_joined l.at l.end l.last (drop l.entry-index l.entries) ≡ are_joined 0 l.end None l.entries
