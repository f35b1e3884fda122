use Rattle.std.proofs.Common.{◌<◌, ◌∷◌, [], length}
use Rattle.mdb_items.specs.ContainerRows.{entry_row}
use Rattle.mdb_rules.specs.Totals.{HasPaths}
use Rattle.mdb_model.proofs.RowsAgain.{Left}
use Rattle.mdb_model.proofs.rechecking.recheck_entries.Given as goal

abbrev pub invariant-loop-e : goal.invariant-loop-e
invariant-loop-e l = HasPaths l.parameters l.containers × (0 < length l.containers.items.items) × Left l.parameters (λ e. entry_row e ∷ []) l.fn.containers.items.items l.entries l.containers.items.items l.e-index
