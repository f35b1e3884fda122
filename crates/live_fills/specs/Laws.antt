-- What holds of the notes of fillers.
use Rattle.std.specs.Prelude.{◌≡◌, ◌≤◌, ℕ, List, length, take, slice_get, Some, IsTrue}
use mathlib.Core.List.{IsPrefix}
use Rattle.arch_disk.specs.Disk.{Device}
use Rattle.intervals.specs.declared.interval.Interval.{Interval}
use Rattle.refusals.specs.declared.refusal.Refusal.{Refusal}
use Rattle.history_items.specs.declared.fills.Fill.{Fill}
use Rattle.history_items.specs.declared.fills.Fill.TheVariants.{Done}
use Rattle.history_items.specs.declared.items.Item.{Item}
use Rattle.history_items.specs.Fills.{base_in}
use Rattle.interval_fills.specs.Steps.{all_freed}
use Rattle.store_fills.specs.LastFills.{fillings_in}
use Rattle.store_fills.specs.Sound.{base_of_filling}
use Rattle.archive_store.specs.AddedFills.{AddsRightFills}
use Rattle.archive_store.specs.StoreView.{StoreView}
use Rattle.live_archive.specs.GoesOn.{GoesOn}
use Rattle.live_fills.specs.Filler.{IsFillNote, IsFillerRefusal}
use Rattle.live_fills.specs.LiveTarget.{WasLate}

-- what a filler noted stays as both lists go on
abbrev pub NotesStay : Type 0 → Type 0
NotesStay D = (first : StoreView D) (front history : List Item) (noted fills : List Fill) (place : ℕ) →
    IsPrefix front history → IsPrefix noted fills →
    IsFillNote first front noted place → IsFillNote first history fills place

-- so does why it ended
abbrev pub CausesStay : {D : Type 0} → Device D → Type 0
CausesStay {D = D} device = (first : StoreView D) (places : List ℕ) (front history : List Item)
    (noted fills : List Fill) (refusal : Refusal) → IsPrefix front history → IsPrefix noted fills →
    IsFillerRefusal device first places front noted refusal → IsFillerRefusal device first places history fills refusal

-- each fill that came since was of an interval that was late
abbrev pub WereLate : {D : Type 0} → StoreView D → StoreView D → Type 0
WereLate first now = (place : ℕ) (interval : Interval) (base : ℕ) → length first.fills ≤ place →
    slice_get now.fills place ≡ Some (Done interval base) →
    WasLate first.exponent first.fills now.history (take place now.fills) interval

-- On a transparent disk, where the first fill list tells the bases of the first fills: a store that goes on from it,
-- each of whose fills since was of a late interval, has of each interval the fill that it had, or a right one of an
-- interval that was late.
abbrev pub FillsAreOfLateIntervals : {D : Type 0} → Device D → Type 0
FillsAreOfLateIntervals {D = D} device = (first now : StoreView D) → IsTrue device.is_transparent →
    ((interval : Interval) → base_in interval first.fills ≡ base_of_filling (fillings_in first.filled) interval) →
    GoesOn device first now → WereLate first now →
    AddsRightFills first.head first.exponent now.history (fillings_in first.filled) (fillings_in now.filled)

-- a fill of a settled list is one of the list
abbrev pub SettlingAddsNoFill : Type 0
SettlingAddsNoFill = (fills : List Fill) (place : ℕ) (interval : Interval) (base : ℕ) →
    slice_get (all_freed fills) place ≡ Some (Done interval base) → slice_get fills place ≡ Some (Done interval base)
