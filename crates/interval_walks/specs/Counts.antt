-- Which intervals have rows, and which of them are late.
use Rattle.std.specs.Prelude.{◌≡◌, ℕ, List, [], ◌∷◌, ◌++◌, fold, filter, not, ◌&&◌, ◌==◌, false, if◌then◌else◌}
use Rattle.std.specs.List.{list_any}
use Rattle.intervals.specs.declared.interval.Interval.{Interval}
use Rattle.intervals.specs.Interval.{interval_of}
use Rattle.arch_types.specs.declared.row.Row.{Row}
use Rattle.history_items.specs.declared.fills.Fill.{Fill}
use Rattle.history_items.specs.Fills.{is_same}
use Rattle.history_items.specs.declared.items.Item.{Item}
use Rattle.history_items.specs.Items.{rows_in}
use Rattle.history_items.specs.Late.{is_late_in}

-- the interval of a row's time
abbrev pub row_interval : ℕ → Row → Interval
row_interval exponent row = record { 0 = interval_of exponent row.key.time }

-- the intervals, and that of a row of `tm` where it isn't yet among them
abbrev pub with_interval : ℕ → List Interval → Row → List Interval
with_interval exponent intervals row =
    if (row.table == 0) && not (list_any (is_same (row_interval exponent row)) intervals)
    then intervals ++ row_interval exponent row ∷ []
    else intervals

-- the intervals that have rows of `tm`, each once, in the order of their first rows
abbrev pub intervals_in : ℕ → List Item → List Interval
intervals_in exponent history = fold (with_interval exponent) [] (rows_in history)

-- those that are late
abbrev pub late_intervals : ℕ → List Item → List Fill → List Interval
late_intervals exponent history fills =
    filter (λ interval. is_late_in exponent interval history fills) (intervals_in exponent history)

-- no two of the intervals are one
abbrev pub AreApart : List Interval → Type 0
AreApart [] = Unit {0}
AreApart (interval ∷ others) = (list_any (is_same interval) others ≡ false) × AreApart others
