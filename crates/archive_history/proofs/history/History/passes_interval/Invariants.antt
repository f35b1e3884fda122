use Rattle.std.proofs.Common.{take}
use Rattle.std.specs.List.{AllByRecursion}
use Rattle.history_items.specs.Items.{rows_in}
use Rattle.archive_history.proofs.Intervals.{IsCounted}
use Rattle.archive_history.proofs.history.History.passes_interval.Given as goal

abbrev pub invariant-loop-row : goal.invariant-loop-row
invariant-loop-row l = AllByRecursion (IsCounted l.self.exponent (rows_in l.self.items) l.rows) (take l.row-index l.rows)
