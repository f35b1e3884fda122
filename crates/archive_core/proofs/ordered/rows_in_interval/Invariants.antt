use Rattle.std.proofs.Common.{◌≡◌, take}
use Rattle.std.specs.Prelude.{filter}
use Rattle.history_items.specs.Items.{is_of_interval}
use Rattle.archive_core.proofs.ordered.rows_in_interval.Given as goal

abbrev pub invariant-loop-row : goal.invariant-loop-row
invariant-loop-row l = l.found.items ≡ filter (is_of_interval l.exponent l.interval) (take l.row-index l.rows)
