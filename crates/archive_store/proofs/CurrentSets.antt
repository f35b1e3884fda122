-- The sets that stand for intervals: where they do, and what they then hold.
use Rattle.std.proofs.Common.{◌≡◌, ◌⊎◌, inl, inr, ℕ, List, Option, Some, None, true, true≢false, refl, sym, ◌∙◌, ap, subst, false}
use Rattle.std.specs.Prelude.{option_map, IfSome, IsSome, MatchOption, ⊤}
use Rattle.std.specs.List.{AllByRecursion}
use Rattle.std.specs.Option.{is_some, option_map_or}
use Rattle.intervals.specs.declared.interval.Interval.{Interval}
use Rattle.history_items.specs.declared.fills.Fill.{Fill}
use Rattle.fill_tracker.specs.FillTracker.{AreMarksOf, mark_by}
use Rattle.history_items.specs.Fills.{base_in, in_flight}
use Rattle.history_items.specs.declared.items.Item.{Item}
use Rattle.history_items.specs.Items.{rows_in}
use Rattle.history_items.specs.Databases.{database_in}
use Rattle.history_items.specs.Late.{HasRow, IsChangedSince, IsLastIn, IsLate, last_in, is_late_in}
use Rattle.history_items.proofs.Late.{last_is_greatest, late_by_last}
use Rattle.interval_fills.specs.Intervals.{rows_of_interval}
use Rattle.interval_fills.proofs.Growing.{none_since}
use Rattle.interval_fills.proofs.Intervals.{database_below}
use Rattle.late_marks.specs.Marks.{Marks, has_rows}
use Rattle.param_segments.specs.Rows.{SetRow}
use Rattle.store_fills.specs.Filled.{HoldsRows}
use Rattle.store_fills.specs.LastFills.{PlacedFills, fill_over, fillings_in}
use Rattle.store_fills.specs.Sound.{Filling, base_of_filling}
use Rattle.mdb_items.specs.Database.{Database}
use Rattle.param_segments.specs.Extracted.{IsSetOf}
use Rattle.late_marks.specs.Mark.{is_late_by}
use Rattle.std.proofs.lemmas.Bool.{false_from_ne_true}
use Rattle.archive_store.specs.LateFills.{is_late_by_fill}
use Rattle.archive_images.specs.declared.head.Head.{Head}
use Rattle.archive_store.specs.CurrentSets.{IsCurrentSet}
use Rattle.archive_images.specs.Entries.{IsArchivedRow, IsSoundArchive, filled_archive}
use Rattle.archive_reading.specs.PartialArchive.{HoldsFills}
use Rattle.archive_store.specs.StoreView.{StoreView}
use Rattle.intervals.specs.Interval.{HasClockTime}
use Rattle.archive_images.proofs.Times.{stands_in_clock}

-- what holds whatever an option has holds of what it has
pub if_any : {T : Type 0} (o : Option T) (P : Type 0) → P → IfSome o (λ _. P)
if_any (Some x) P p = p
if_any None P p = tt

-- ---- the set that stands for an interval

-- the fill list has the base of its fill
pub based : (fills : List Fill) (filled : PlacedFills) (i : Interval) (f : Filling (List SetRow)) → ((j : Interval) → base_in j fills ≡ base_of_filling (fillings_in filled) j) → fillings_in filled i ≡ Some f → base_in i fills ≡ Some f.base
based fills filled i f bases is = bases i ∙ ap (λ (o : Option (Filling (List SetRow))). option_map (λ g. g.base) o) is

pub current_is : {D : Type 0} (store : StoreView D) (i : Interval) (base : ℕ) (set : List SetRow) → HoldsFills store.head store.exponent store.history store.fills store.filled
    → fillings_in store.filled i ≡ Some (fill_over base set) → (IsLate store.exponent i store.history store.fills → ⊥) → HasRow store.exponent i store.history → IsCurrentSet store i set
current_is store i base set holds is never row =
    let told = based store.fills store.filled i (fill_over base set) holds.bases is in
    let below = database_below store.head.mdb store.exponent i base store.history (none_since store.exponent i base store.history store.fills told never row) in record {
      current = never;
      base = base;
      filled = is;
      fits = subst (λ (db : Database). IsSetOf db store.exponent i.0 set) (sym below) (holds.fits i (fill_over base set) is);
    }

-- the set of an interval that isn't late holds what the interval's rows give, where the fills are sound
pub current_holds : (head : Head) (exponent : ℕ) (history : List Item) (fills : List Fill) (filled : PlacedFills) (i : Interval) (base : ℕ) (set : List SetRow) → ((j : Interval) → base_in j fills ≡ base_of_filling (fillings_in filled) j)
    → fillings_in filled i ≡ Some (fill_over base set) → (IsLate exponent i history fills → ⊥) → HasRow exponent i history → IsSoundArchive (filled_archive head exponent history (fillings_in filled))
    → HoldsRows (database_in head.mdb history) set (rows_of_interval exponent i history)
current_holds head exponent history fills filled i base set bases is current row sound =
    sound.each i (fill_over base set) is (none_since exponent i base history fills (based fills filled i (fill_over base set) bases is) current row)

-- ---- an interval that has rows

-- one that has a mark has some
pub marked_last : (exponent : ℕ) (marks : Marks) (fills : List Fill) (history : List Item) (i : Interval) → AreMarksOf exponent history fills marks → has_rows marks i ≡ true → IsSome (last_in exponent i history)
marked_last exponent marks fills history i are marked = go (last_in exponent i history) (sym marked ∙ ap is_some (are.each i))
  where
    go : (o : Option ℕ) → true ≡ is_some (mark_by o (base_in i fills) (is_some (in_flight i fills))) → IsSome o
    go None some = absurd (true≢false some)
    go (Some last) some = refl

-- it has a row
pub last_row : (exponent : ℕ) (history : List Item) (i : Interval) → IsSome (last_in exponent i history) → HasRow exponent i history
last_row exponent history i some = go (last_in exponent i history) some (last_is_greatest exponent i history)
  where
    go : (o : Option ℕ) → IsSome o → IsLastIn exponent i history o → HasRow exponent i history
    go None no_row last = absurd (true≢false (sym no_row))
    go (Some l) row last = last.0

-- and where it has one, it has a last one
pub has_last : (exponent : ℕ) (history : List Item) (i : Interval) → HasRow exponent i history → IsSome (last_in exponent i history)
has_last exponent history i row = go (last_in exponent i history) (last_is_greatest exponent i history)
  where
    go : (o : Option ℕ) → IsLastIn exponent i history o → IsSome o
    go None never = absurd (never row)
    go (Some l) last = refl

-- it has a moment of the clock
pub last_in_clock : (head : Head) (exponent : ℕ) (history : List Item) (i : Interval) → AllByRecursion (IsArchivedRow head history) (rows_in history) → IsSome (last_in exponent i history) → HasClockTime exponent i
last_in_clock head exponent history i all some =
    let row = last_row exponent history i some in
    stands_in_clock head exponent history i row.position all row.stands

-- it is late, where it was never filled
pub late_or_never_filled : (exponent : ℕ) (history : List Item) (fills : List Fill) (filled : PlacedFills) (i : Interval) → ((j : Interval) → base_in j fills ≡ base_of_filling (fillings_in filled) j) → HasRow exponent i history
    → IsLate exponent i history fills ⊎ (fillings_in filled i ≡ None) → IsLate exponent i history fills
late_or_never_filled exponent history fills filled i bases row (inl late) = late
late_or_never_filled exponent history fills filled i bases row (inr unfilled) =
    let no_base : base_in i fills ≡ None = bases i ∙ ap (λ (o : Option (Filling (List SetRow))). option_map (λ g. g.base) o) unfilled in
    record { row = row; unseen = subst (λ (o : Option ℕ). MatchOption o ⊤ (λ base. IsChangedSince exponent i base history)) (sym no_base) tt }

-- ---- lateness by the fills

-- fills and fill list tell the same of each interval
late_same : (exponent : ℕ) (history : List Item) (fills : List Fill) (filled : PlacedFills) (i : Interval) → ((j : Interval) → base_in j fills ≡ base_of_filling (fillings_in filled) j)
    → is_late_in exponent i history fills ≡ is_late_by_fill exponent history (fillings_in filled) i
late_same exponent history fills filled i bases = ap (λ (o : Option ℕ). option_map_or (λ last. is_late_by last o) (last_in exponent i history) false) (bases i)

pub current_by_fill : (exponent : ℕ) (history : List Item) (fills : List Fill) (filled : PlacedFills) (i : Interval) → ((j : Interval) → base_in j fills ≡ base_of_filling (fillings_in filled) j)
    → (IsLate exponent i history fills → ⊥) → is_late_by_fill exponent history (fillings_in filled) i ≡ false
current_by_fill exponent history fills filled i bases never =
    sym (late_same exponent history fills filled i bases) ∙ false_from_ne_true (is_late_in exponent i history fills) (λ late. never ((late_by_last exponent i history fills).0 late))

pub late_by_fill : (exponent : ℕ) (history : List Item) (fills : List Fill) (filled : PlacedFills) (i : Interval) → ((j : Interval) → base_in j fills ≡ base_of_filling (fillings_in filled) j)
    → IsLate exponent i history fills → is_late_by_fill exponent history (fillings_in filled) i ≡ true
late_by_fill exponent history fills filled i bases late = sym (late_same exponent history fills filled i bases) ∙ (late_by_last exponent i history fills).1 late
