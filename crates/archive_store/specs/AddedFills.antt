-- Fills that were added to a history.
use Rattle.std.specs.Prelude.{◌≡◌, ◌⊎◌, ℕ, true, List, Option, Some}
use Rattle.intervals.specs.declared.interval.Interval.{Interval}
use Rattle.history_items.specs.declared.items.Item.{Item}
use Rattle.history_items.specs.Databases.{database_in}
use Rattle.history_items.specs.Items.{prefix}
use Rattle.interval_fills.specs.Intervals.{rows_of_interval}
use Rattle.interval_fills.specs.Steps.{IsFillBase}
use Rattle.param_segments.specs.Rows.{SetRow}
use Rattle.store_fills.specs.Filled.{HoldsRows}
use Rattle.store_fills.specs.LastFills.{fill_over}
use Rattle.store_fills.specs.Sound.{Filling, Fillings}
use Rattle.archive_images.specs.declared.head.Head.{Head}
use Rattle.archive_store.specs.LateFills.{is_late_by_fill}

-- the fill of an interval that was late by these fills: its base is one that a fill may have, and its set holds the
-- cells that the interval's rows below the base give by the database in force there
abbrev pub IsAddedFill
    : Head → ℕ → List Item → Fillings (List SetRow) → Interval → Option (Filling (List SetRow)) → Type 0
IsAddedFill head exponent history fillings interval fill =
    (is_late_by_fill exponent history fillings interval ≡ true)
    × ((base : ℕ) × (set : List SetRow) × IsFillBase exponent interval base history × (fill ≡ Some (fill_over base set))
    × HoldsRows (database_in head.mdb (prefix base history)) set
    (rows_of_interval exponent interval (prefix base history)))

-- each interval has the fill that it had, or was late and has a right one
abbrev pub AddsRightFills : Head → ℕ → List Item → Fillings (List SetRow) → Fillings (List SetRow) → Type 0
AddsRightFills head exponent history old new =
    (interval : Interval) →
    (new interval ≡ old interval) ⊎ IsAddedFill head exponent history old interval (new interval)
