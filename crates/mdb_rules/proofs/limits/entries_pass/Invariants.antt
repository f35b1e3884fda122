use Rattle.std.proofs.Common.{◌≡◌, ◌+◌, take}
use Rattle.std.specs.Prelude.{sum_by}
use Rattle.mdb_items.specs.Database.{entry_count}
use Rattle.mdb_rules.proofs.limits.entries_pass.Given as goal

abbrev pub invariant-loop-container : goal.invariant-loop-container
invariant-loop-container l = l.left + sum_by entry_count (take l.container-index l.containers) ≡ l.most
