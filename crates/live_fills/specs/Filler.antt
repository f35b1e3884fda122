-- What all of a filler's turns come to.
use Rattle.std.specs.Prelude.{◌≡◌, ◌⊎◌, ◌<◌, ◌≤◌, ◌+◌, ℕ, List, length, take, slice_get, Contains, true, Option, Some, IfNone, IfSome}
use mathlib.Core.List.{IsPrefix}
use Rattle.arch_disk.specs.Disk.{Device}
use Rattle.intervals.specs.declared.interval.Interval.{Interval}
use Rattle.refusals.specs.declared.refusal.Refusal.{Refusal}
use Rattle.refusals.specs.declared.refusal.Refusal.TheVariants.{Damaged, DiskFault, Limit, NeedsReopen, OutOfMemory}
use Rattle.refusals.specs.declared.refusal.Which.TheVariants.{Records}
use Rattle.refusals.specs.Limits.{limit_of}
use Rattle.history_items.specs.declared.fills.Addition.{Addition}
use Rattle.history_items.specs.declared.fills.Addition.TheVariants as additions
use Rattle.history_items.specs.declared.fills.Fill.{Fill}
use Rattle.history_items.specs.declared.fills.Fill.TheVariants.{Done, Fault}
use Rattle.history_items.specs.declared.items.Item.{Item}
use Rattle.history_items.specs.Fills.{pending_fault_of}
use Rattle.turn_cell.specs.Pass.{CellView, IsFree, PassView}
use Rattle.archive_store.specs.Pages.{TellsRows}
use Rattle.archive_store.specs.StoreView.{StoreView}
use Rattle.archive_store.specs.UnreadRows.{IsFaultOfRead}
use Rattle.backfiller.specs.Work.{AreAllDone, IsOneRefused}
use Rattle.live_archive.specs.declared.held.HeldStore.{HeldStore}
use Rattle.live_archive.specs.GoesOn.{dones}
use Rattle.live_archive.specs.Reads.{IsReadFaultAt}
use Rattle.live_fills.specs.LiveTarget.{BeginsInTurn, InstallsInTurn, WasLate}

-- ---- what it notes

-- a fill, of what a failed write was to add
abbrev pub IsOfFill : Addition → Type 0
IsOfFill (additions.Fill interval base) = Unit {0}
IsOfFill other = ⊥

-- an item is no fault, or the fault of a fill, or, where rows stand in runs, that of a read
abbrev pub IsNoBatchFault : ℕ → Fill → Type 0
IsNoBatchFault sealed (Fault count wrote addition) =
    IsOfFill addition ⊎ ((0 < sealed) × IsFaultOfRead (Fault count wrote addition))
IsNoBatchFault sealed other = Unit {0}

-- The item at the place is no fault of a batch. Where it is a fill, its interval was late by the items before it.
pub record IsFillNote {D : Type 0} (first : StoreView D) (history : List Item) (fills : List Fill) (place : ℕ)
    : Type 0 where
  pub item : Fill
  pub there : slice_get fills place ≡ Some item
  pub of_fill : IsNoBatchFault first.sealed item
  pub late : (interval : Interval) (base : ℕ) → item ≡ Done interval base
      → WasLate first.exponent first.fills history (take place fills) interval

-- The pass has seen more of both lists. It has put nothing into the history, and what it has noted in the fill list are
-- fills of late intervals, and no fault of a batch.
pub record FillsAlone {D T : Type 0} (first : StoreView D) (old new : PassView Item Fill T) : Type 0 where
  pub share : new.share ≡ old.share
  pub begins : IsPrefix old.history.seen new.history.seen
  pub fills_begin : IsPrefix old.fills.seen new.fills.seen
  pub put_none : (new.history.added ≡ old.history.added) × (new.history.places ≡ old.history.places)
  pub noted : (place : ℕ) → Contains new.fills.places place
      → Contains old.fills.places place ⊎ IsFillNote first new.history.seen new.fills.seen place

module _ {D T : Type 0} (device : Device D) (first : StoreView D) (old new : PassView Item Fill T) where
  -- works were done one after the other, each of which ended at a begin that gave none, and no other call was made
  abbrev pub AreWorksDone : Type 0
  AreWorksDone = AreAllDone (BeginsInTurn device first) (InstallsInTurn device first) old new

  -- works were done, and then the begin or the install that was refused so was the last call
  abbrev pub IsLastRefused : Refusal → Type 0
  IsLastRefused refusal = IsOneRefused (BeginsInTurn device first) (InstallsInTurn device first) old new refusal

-- ---- why it ended before the links did

-- a fault by a failed write stands at the place
abbrev pub IsWriteFaultAt : List Fill → ℕ → Type 0
IsWriteFaultAt fills place =
    (count : ℕ) × (addition : Addition) × (slice_get fills place ≡ Some (Fault count true addition))

-- a fault by a failed write stands at one of these places, or, where rows stand in runs, by a failed read
pub record HasNotedFault (sealed : ℕ) (places : List ℕ) (fills : List Fill) : Type 0 where
  pub place : ℕ
  pub noted : Contains places place
  pub there : IsWriteFaultAt fills place ⊎ ((0 < sealed) × IsReadFaultAt fills place)

-- the log that the turns began with has no place left, with a record for each item and each fill that came since
abbrev pub IsLogFull : {D : Type 0} → StoreView D → List Item → List Fill → Type 0
IsLogFull first history fills =
    limit_of Records + length first.history + dones first.fills ≤ first.records + length history + dones fills

-- Of a filler with these places in the fill list: no memory; a failed write is pending; no place for a record; the
-- disk failed in a turn of its own; or a page broke its format, which never comes where the store tells its rows.
abbrev pub IsFillerRefusal : {D : Type 0} → Device D → StoreView D → List ℕ → List Item → List Fill → Refusal → Type 0
IsFillerRefusal device first places history fills OutOfMemory = Unit {0}
IsFillerRefusal device first places history fills (NeedsReopen faults) = pending_fault_of fills ≡ Some faults
IsFillerRefusal device first places history fills (Limit which number) =
    (which ≡ Records) × (number ≡ limit_of Records) × IsLogFull first history fills
IsFillerRefusal device first places history fills DiskFault = HasNotedFault first.sealed places fills
IsFillerRefusal device first places history fills (Damaged file at) = TellsRows device first → ⊥
IsFillerRefusal device first places history fills _ = ⊥

-- the same of a pass
abbrev pub IsRefusalOf : {D T : Type 0} → Device D → StoreView D → PassView Item Fill T → Refusal → Type 0
IsRefusalOf device first pass refusal =
    IsFillerRefusal device first pass.fills.places pass.history.seen pass.fills.seen refusal

-- ---- a filler that has ended

-- Its pass has no turn, and has filled alone. Where nothing was refused, each of its works ended at a begin that gave
-- none; else its last call was refused so, and there is why.
pub record IsFillerRun {D : Type 0} (device : Device D) (cell : CellView (HeldStore D))
    (old new : PassView Item Fill (HeldStore D)) (refusal : Option Refusal) : Type 0 where
  pub free : IsFree cell new
  pub alone : FillsAlone cell.first.store old new
  pub done : IfNone refusal (AreWorksDone device cell.first.store old new)
  pub last : IfSome refusal (IsLastRefused device cell.first.store old new)
  pub refused : IfSome refusal (IsRefusalOf device cell.first.store new)
