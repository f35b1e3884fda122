use Rattle.std.proofs.Common.{◌≡◌, ◌≤◌, take}
use Rattle.archive_history.specs.Limits.{interval_rows}
use Rattle.archive_history.proofs.history.interval_rows_in.Given as goal

abbrev pub invariant-loop-row : goal.invariant-loop-row
invariant-loop-row l = record {
  count : l.count ≡ interval_rows l.exponent l.interval (take l.row-index l.rows);
  small : l.count ≤ l.row-index;
}
