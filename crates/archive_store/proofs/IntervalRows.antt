-- The intervals that have rows, and the rows of each.
use Rattle.std.proofs.Common.{◌≡◌, ◌∙◌, ℕ, pos, List, [], ◌∷◌, length, Option, Some, None, true, refl, ap, arith, true≢false, sym, append-nil}
use Rattle.std.specs.Prelude.{IsSome}
use Rattle.std.specs.List.{AllByRecursion}
use Rattle.std.proofs.lemmas.Int.{ints}
use Rattle.intervals.specs.declared.interval.Interval.{Interval}
use Rattle.arch_types.specs.declared.row.Row.{Row}
use Rattle.arch_types.specs.Table.{range_of}
use Rattle.history_items.specs.Fills.{base_in}
use Rattle.history_items.specs.declared.items.Item.{Item}
use Rattle.history_items.specs.Items.{rows_in}
use Rattle.history_items.specs.Late.{HasRow, IsLastIn, StandsIn, last_in}
use Rattle.history_items.proofs.Late.{last_is_greatest}
use Rattle.history_items.specs.declared.fills.Fill.{Fill}
use Rattle.intervals.specs.Interval.{interval_end, interval_start}
use Rattle.interval_fills.proofs.Intervals.{in_range}
use Rattle.interval_fills.specs.Intervals.{rows_of_interval}
use Rattle.interval_walks.specs.Turns.{MeetsRange}
use Rattle.interval_walks.proofs.Rising.{after_low, before_high, range_is}
use Rattle.late_marks.specs.Marks.{Marks, has_rows}
use Rattle.fill_tracker.specs.FillTracker.{AreMarksOf}
use Rattle.param_segments.specs.Rows.{SetRow}
use Rattle.store_fills.specs.LastFills.{PlacedFills, fillings_in}
use Rattle.store_fills.specs.Sound.{Filling}
use Rattle.archive_images.specs.declared.head.Head.{Head}
use Rattle.archive_images.specs.Entries.{IsArchivedRow}
use Rattle.archive_reading.specs.PartialArchive.{HoldsFills}
use Rattle.archive_store.specs.Replays.{rows_below}
use Rattle.archive_store.proofs.CurrentSets.{based, marked_last}
use Rattle.archive_store.proofs.ReplayedRows.{below_its_end}
use Rattle.archive_images.proofs.Times.{stands_in_clock}

-- intervals that have marks have rows
pub all_marked : (exponent : ℕ) (history : List Item) (fills : List Fill) (marks : Marks) (is : List Interval) → AreMarksOf exponent history fills marks → AllByRecursion (λ i. has_rows marks i ≡ true) is → AllByRecursion (λ i. IsSome (last_in exponent i history)) is
all_marked exponent history fills marks [] are all = tt
all_marked exponent history fills marks (i ∷ is) are all = (marked_last exponent marks fills history i are all.0, all_marked exponent history fills marks is are all.1)

-- the interval of a row of an archive meets the range of all times
pub meets_all : (head : Head) (exponent : ℕ) (history : List Item) (i : Interval) (p : ℕ) → AllByRecursion (IsArchivedRow head history) (rows_in history) → StandsIn exponent i p history → MeetsRange exponent (pos 0) (pos 9223372036854775807) i
meets_all head exponent history i p all stands =
    let moment = stands_in_clock head exponent history i p all stands in
    let clock = moment.1 in
    let row : Row = record stands.row { key = record { time = moment.0; seq = 0 } } in
    let bounds = range_is (interval_start exponent i) (interval_end exponent i) row (in_range exponent i row moment.2) in
    record { begins = before_high bounds.0 (omega (arith, ints, clock.1)); ends = after_low clock.0 bounds.1 }

-- where an interval is filled it has a row: its base is told by the fill list, which names no interval without rows
pub filled_stands : (head : Head) (exponent : ℕ) (history : List Item) (fills : List Fill) (marks : Marks) (filled : PlacedFills) (i : Interval) → AreMarksOf exponent history fills marks → HoldsFills head exponent history fills filled
    → IsSome (fillings_in filled i) → HasRow exponent i history
filled_stands head exponent history fills marks filled i are holds some = go (last_in exponent i history) refl (last_is_greatest exponent i history)
  where
    not_filled : (f : Option (Filling (List SetRow))) → fillings_in filled i ≡ f → base_in i fills ≡ None → IsSome f → ⊥
    not_filled None is none there = true≢false (sym there)
    not_filled (Some f) is none there = let there : base_in i fills ≡ Some f.base = based fills filled i f holds.bases is in cc (there, none)

    go : (o : Option ℕ) → last_in exponent i history ≡ o → IsLastIn exponent i history o → HasRow exponent i history
    go None e never = absurd (not_filled (fillings_in filled i) refl (are.known i e).0 some)
    go (Some last) e row = row.0

-- what a source tells of an interval's times, at the end of a history
pub whole_interval : (exponent e front : ℕ) (i : Interval) (history items : List Item) → e ≡ exponent → items ≡ history → front ≡ length history
    → range_of 0 (interval_start e i) (interval_end e i) (rows_below items front) ≡ rows_of_interval exponent i history
whole_interval exponent e front i history items same its all =
    ap (λ (n : ℕ). range_of 0 (interval_start n i) (interval_end n i) (rows_below items front)) same
    ∙ ap (range_of 0 (interval_start exponent i) (interval_end exponent i)) (ap (λ (l : List Item). rows_below l front) its ∙ below_its_end history history front all ([], append-nil history))
