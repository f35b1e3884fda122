use Rattle.std.proofs.Common.{◌≡◌, ◌++◌, take}
use Rattle.histogram.specs.Times.{spans_of, spans_of_times}
use Rattle.run_pages.specs.Placed.{rows_of_placed}
use Rattle.sealed_sums.proofs.OrderBlind.{times_in_table}
use Rattle.sealed_history.proofs.Pieces.{all_of, pieces_in_order}
use Rattle.sealed_history.proofs.history.SealedHistory.spans.Given as goal

-- the records of the runs' times and of those of so many pieces of the log's
abbrev pub invariant-loop-span : goal.invariant-loop-span
invariant-loop-span l =
    spans_of l.pname l.histogram
    ≡ spans_of_times (times_in_table l.table l.pname (rows_of_placed l.self.placed) ++ all_of (take l.span-index (pieces_in_order (times_in_table l.table l.pname l.self.log))))
