-- The greatest number of each quantity of a history that has a limit.
use Rattle.std.specs.Prelude.{ℕ}
use Rattle.archive_history.specs.declared.row_limit.RowLimit.{RowLimit}
use Rattle.archive_history.specs.declared.row_limit.RowLimit.TheVariants.{Rows, HistoryOctets, IntervalRows}

-- a history passes the limit exactly where the quantity passes this number
abbrev pub row_limit : RowLimit → ℕ
row_limit Rows = 4194304
row_limit HistoryOctets = 2147483648
row_limit IntervalRows = 262144
