-- What a store answers in a turn, as its caller sees it.
use Rattle.std.proofs.Common.{◌≡◌, ◌⊎◌, ℕ, ◌≤◌, List, ◌++◌, length, Option, Some, None, Result, Ok, Err, IfOk, IfSome, IfNone, sym, ap, ◌∙◌, subst}
use Rattle.std.specs.Prelude.{option_map}
use mathlib.Core.List.{IsPrefix}
use Rattle.arch_disk.specs.Disk.{Device}
use Rattle.arch_types.specs.declared.row.Row.{Row}
use Rattle.intervals.specs.declared.interval.Interval.{Interval}
use Rattle.history_items.specs.declared.items.Item.{Item}
use Rattle.history_items.specs.Databases.{database_in}
use Rattle.history_items.specs.Late.{IsLate}
use Rattle.interval_fills.specs.Intervals.{rows_of_interval}
use Rattle.param_segments.specs.Rows.{SetRow}
use Rattle.replay_merge.specs.Cursor.{AsksTheSame, CursorView, rest_of}
use Rattle.store_fills.specs.Filled.{HoldsRows}
use Rattle.store_fills.specs.LastFills.{fillings_in}
use Rattle.archive_store.specs.CurrentSets.{IsCurrentSet}
use Rattle.archive_store.specs.Replays.{rows_below}
use Rattle.archive_store.specs.StoreView.{StoreView}
use Rattle.archive_store.proofs.ReplayedRows.{rest_of_later}
use Rattle.live_archive.specs.Answers.{AreSegments, WhereSound}

pub segments_found : {D X E : Type 0} (device : Device D) (store : StoreView D) (interval : Interval) (f : X → List SetRow) (r : Result (Option X) E)
    → IfOk r (λ o. IfSome o (λ x. IsCurrentSet store interval (f x)))
    → IfOk r (λ o. IfNone o (IsLate store.exponent interval store.history store.fills ⊎ (fillings_in store.filled interval ≡ None)))
    → WhereSound device store (IfOk r (λ o. IfSome o (λ x. HoldsRows (database_in store.head.mdb store.history) (f x) (rows_of_interval store.exponent interval store.history))))
    → IfOk r (λ o. AreSegments device store interval (option_map f o))
segments_found device store interval f (Ok (Some x)) some none holds = record { some = some; none = none; holds = holds }
segments_found device store interval f (Ok None) some none holds = record { some = some; none = none; holds = holds }
segments_found device store interval f (Err e) some none holds = some

-- a replay gives the same rows over any history that begins with one that has its front
pub rows_as_seen : {E : Type 0} (r : Result (List Row) E) (old new : CursorView) (seen now : List Item) → old.front ≤ length seen → IsPrefix seen now → AsksTheSame old new
    → IfOk r (λ rows. rows ++ rest_of new (rows_below now) ≡ rest_of old (rows_below now)) → IfOk r (λ rows. rows ++ rest_of new (rows_below seen) ≡ rest_of old (rows_below seen))
rows_as_seen (Ok rows) old new seen now low p same is =
    ap (λ (l : List Row). rows ++ l) (sym (rest_of_later new seen now (subst (λ (n : ℕ). n ≤ length seen) (sym same.at_front) low) p)) ∙ (is ∙ rest_of_later old seen now low p)
rows_as_seen (Err e) old new seen now low p same is = is
