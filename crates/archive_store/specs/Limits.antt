-- The limits of a store: those of its history, and that of its records.
use Rattle.std.specs.Prelude.{◌≡◌, ◌≢◌, ◌⊎◌, ℕ, ◌<◌, ◌≤◌, List, []}
use Rattle.arch_types.specs.declared.row.Row.{Row}
use Rattle.refusals.specs.declared.refusal.Which.{Which}
use Rattle.refusals.specs.declared.refusal.Which.TheVariants as limits
use Rattle.refusals.specs.Limits.{limit_of}
use Rattle.history_items.specs.declared.items.Item.{Item}
use Rattle.history_items.specs.Items.{after_rows, rows_in}
use Rattle.history_items.specs.Outcomes.{fresh_of}
use Rattle.archive_history.specs.Limits.{IsWithin, PassesFirst}
use Rattle.archive_history.specs.declared.row_limit.RowLimit.{RowLimit}
use Rattle.archive_history.specs.declared.row_limit.RowLimit.TheVariants as of_rows

-- a limit of a history among those of the archive
abbrev pub limit_of_history : RowLimit → Which
limit_of_history of_rows.Rows = limits.Rows
limit_of_history of_rows.HistoryOctets = limits.HistoryOctets
limit_of_history of_rows.IntervalRows = limits.IntervalRows

-- this is the first limit that is passed where a record more is appended to so many, for a history that came to be
-- these items: the first that its rows pass, or else that of records
abbrev pub IsLimit : ℕ → Which → ℕ → List Item → Type 0
IsLimit exponent which records items =
    ((limit : RowLimit) × (which ≡ limit_of_history limit) × PassesFirst exponent limit (rows_in items))
    ⊎ ((which ≡ limits.Records) × IsWithin exponent (rows_in items) × (limit_of limits.Records ≤ records))

-- no limit is passed, where a record more is appended to so many for the rows of a batch that are new
pub record IsBelowLimits (exponent : ℕ) (records : ℕ) (history : List Item) (rows : List Row) : Type 0 where
  pub within : IsWithin exponent (rows_in (after_rows history rows))
  pub records_left : fresh_of history rows ≢ [] → records < limit_of limits.Records
