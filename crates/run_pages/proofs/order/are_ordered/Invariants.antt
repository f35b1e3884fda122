use Rattle.std.proofs.Common.{◌≡◌, drop, None}
use Rattle.run_pages.specs.Order.{are_ordered}
use Rattle.run_pages.proofs.order.are_ordered.Given as goal

abbrev pub invariant-loop-row : goal.invariant-loop-row
invariant-loop-row l = are_ordered l.table l.first l.next l.last (drop l.row-index l.rows) ≡ are_ordered l.table l.first l.next None l.rows
