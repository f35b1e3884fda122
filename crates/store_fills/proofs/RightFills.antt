-- Fills that are right for a history.
use Rattle.std.proofs.Common.{◌≡◌, ℕ, List, [], ◌++◌, length, take, sym, ◌∙◌, ap, subst, append-nil}
use Rattle.std.proofs.Math.Seq.{take-append_seam}
use Rattle.std.proofs.lemmas.List.{take-append-le}
use Rattle.history_items.specs.declared.items.Item.{Item}
use Rattle.history_items.specs.Items.{items_of, prefix}
use Rattle.history_items.proofs.Databases.{rows_keep_database}
use Rattle.history_items.specs.Databases.{database_in}
use Rattle.intervals.specs.declared.interval.Interval.{Interval}
use Rattle.mdb_items.specs.Database.{Database}
use Rattle.param_segments.specs.Extracted.{IsSetOf}
use Rattle.param_segments.specs.Rows.{SetRow}
use Rattle.interval_fills.specs.Intervals.{rows_of_interval}
use Rattle.interval_fills.proofs.Growing.{base_grows, late_base}
use Rattle.interval_fills.proofs.Intervals.{database_below, rows_below}
use Rattle.store_fills.specs.Filled.{HoldsRows}
use Rattle.store_fills.specs.LastFills.{fill_over}
use Rattle.store_fills.specs.Laws.{FillLeavesSound, RightFillStays, RowsLeaveSound, WholeFillIsRight}
use Rattle.store_fills.specs.Sound.{AreSound}
use Rattle.store_fills.proofs.Soundness.{fill_leaves, rows_leave}

-- the whole of a history, as a front of it
whole_front : (history : List Item) → prefix (length history) history ≡ history
whole_front history = ap (take (length history)) (sym (append-nil history)) ∙ take-append_seam history []

-- a fill whose set goes with the items below its base
abbrev Goes : ℕ → Database → Interval → List SetRow → List Item → Type 0
Goes e first i set below = IsSetOf (database_in first below) e i.0 set × HoldsRows (database_in first below) set (rows_of_interval e i below)

pub whole_fill_is_right : WholeFillIsRight
whole_fill_is_right e first history fills i set late fits holds =
    let goes = subst (Goes e first i set) (sym (whole_front history)) (fits, holds) in
    record { may = late_base e i history fills late; fits = goes.0; holds = goes.1 }

pub right_fill_stays : RightFillStays
right_fill_stays e first history more i base set right =
    let goes = subst (Goes e first i set) (sym (take-append-le base history more right.may.within)) (right.fits, right.holds) in
    record { may = base_grows e i base history more right.may; fits = goes.0; holds = goes.1 }

-- what is kept stays sound when a fill comes that is right: where nothing changed its interval since, its database is the one in force
pub right_fill_leaves : FillLeavesSound
right_fill_leaves e first history fillings i base set sound right =
    fill_leaves e (List SetRow) (HoldsRows (database_in first history)) history fillings i (fill_over base set) sound right.may.within
    (λ none. subst (λ (db : Database). HoldsRows db set (rows_of_interval e i history)) (sym (database_below first e i base history none))
    (subst (HoldsRows (database_in first (prefix base history)) set) (sym (rows_below e i base history none)) right.holds))

-- and when rows come, which keep the database in force
pub rows_leave_right : RowsLeaveSound
rows_leave_right e first history rows fillings sound =
    rows_leave e (List SetRow) (HoldsRows (database_in first (history ++ items_of rows))) history (items_of rows) fillings
    (subst (λ (db : Database). AreSound e (HoldsRows db) history fillings) (sym (rows_keep_database first history rows)) sound)
