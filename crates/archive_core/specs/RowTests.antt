-- Tests of rows, by which rows and the next interval are found.
use Rattle.std.specs.Prelude.{ℕ, ℤ, ◌&&◌, ◌==◌, not, Bool, true, List, Option, Some, None, int_lt}
use Rattle.std.specs.Option.{is_some}
use Rattle.intervals.specs.declared.interval.Interval.{Interval}
use Rattle.intervals.specs.Interval.{interval_of}
use Rattle.arch_types.specs.declared.row.Row.{Row}
use Rattle.arch_types.specs.History.{is_in_table}
use Rattle.arch_types.specs.Table.{is_in_time_range}
use Rattle.history_items.specs.declared.fills.Fill.{Fill}
use Rattle.history_items.specs.Fills.{base_in, in_flight}
use Rattle.late_marks.specs.Mark.{is_late_by}

-- whether a row is of a table, with its time in a half-open range
abbrev pub is_row_of_range : ℕ → ℤ → ℤ → Row → Bool
is_row_of_range table low high row = is_in_table table row && is_in_time_range low high row

-- the interval of a row's time
abbrev pub interval_at : ℕ → Row → Interval
interval_at exponent row = record { 0 = interval_of exponent row.key.time }

-- whether a row of `tm` at this position shows that its interval is late, and the interval is free
abbrev pub shows_late_free : ℕ → List Fill → ℕ → Row → Bool
shows_late_free exponent fills position row =
    (row.table == 0)
    && is_late_by position (base_in (interval_at exponent row) fills)
    && not (is_some (in_flight (interval_at exponent row) fills))

-- whether an interval is below the least so far
abbrev pub is_below_least : Option Interval → Interval → Bool
is_below_least None interval = true
is_below_least (Some least) interval = int_lt interval.0 least.0
