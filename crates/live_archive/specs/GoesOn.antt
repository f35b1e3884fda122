-- What stays true of a store while it is taken in turns, beside the one that the turns began with.
use Rattle.std.specs.Prelude.{◌≡◌, ◌≢◌, ◌⊎◌, ℕ, ◌+◌, ◌≤◌, List, [], ◌∷◌, ◌++◌, length, slice_get, Option, Some, None, IsTrue, true}
use Rattle.std.specs.List.{AllByRecursion, filter_map}
use Rattle.arch_disk.specs.Disk.{Device, NoFault, NoWriteFailed, raised}
use Rattle.intervals.specs.declared.interval.Interval.{Interval}
use Rattle.history_items.specs.declared.fills.Addition.{Addition}
use Rattle.history_items.specs.declared.fills.Fill.{Fill}
use Rattle.history_items.specs.declared.fills.Fill.TheVariants.{Done, Fault}
use Rattle.history_items.specs.Databases.{database_in, names_in}
use Rattle.history_items.specs.Fills.{pending_fault_of}
use Rattle.history_items.specs.declared.fills.Addition.TheVariants.{Rows}
use Rattle.history_items.specs.declared.items.Item.{Item}
use Rattle.history_items.specs.Items.{after_rows, databases_in, items_of}
use Rattle.history_items.specs.Noted.{IntervalFill, noted_of}
use Rattle.param_segments.specs.Rows.{SetRow}
use Rattle.store_fills.specs.Faults.{faults_in}
use Rattle.store_fills.specs.Filled.{IsRightFill}
use Rattle.store_fills.specs.LastFills.{fillings_in}
use Rattle.store_fills.specs.Sound.{Filling}
use Rattle.archive_store.specs.Pages.{TellsRows}
use Rattle.archive_store.specs.StoreView.{StoreView, OnlyAppends}
use Rattle.archive_store.specs.UnreadRows.{IsFaultOfRead}
use Rattle.live_archive.specs.Images.{LeavesBetween}

-- the fill that is there by an item of a fill list, where there is one
abbrev pub done_of_fill : Fill → Option IntervalFill
done_of_fill item = (noted_of item).done

-- how many fills of a fill list are there
abbrev pub dones : List Fill → ℕ
dones fills = length (filter_map done_of_fill fills)

-- No write of the disk failed: what faults were noted are those of reads, which the disk counted. Where no row stands
-- in a run none was.
pub record NoneFailed {D : Type 0} (device : Device D) (old new : StoreView D) : Type 0 where
  pub reads : List Fill
  pub each : AllByRecursion IsFaultOfRead reads
  pub faults : faults_in new.fills ≡ faults_in old.fills ++ reads
  pub no_failed_write : NoWriteFailed device old.disk new.disk
  pub no_fault : reads ≡ [] → NoFault device old.disk new.disk
  pub rose : reads ≢ [] → raised (device.fault_count old.disk) ≤ device.fault_count new.disk
  pub plain : old.sealed ≡ 0 → reads ≡ []

-- the rows that an addition holds are all new to a history: each would come to stand behind it
abbrev pub AreNewTo : List Item → Addition → Type 0
AreNewTo history (Rows rows) = after_rows history rows ≡ history ++ items_of rows
AreNewTo history other = Unit {0}

-- One write of the disk failed, where none was pending: what its call would have added stands in one fault more, and,
-- where the store tells its rows, no row of it came since. Other faults were noted only of reads, and none where no
-- row stands in a run.
pub record OneFailed {D : Type 0} (device : Device D) (old new : StoreView D) : Type 0 where
  pub healed : pending_fault_of old.fills ≡ None
  pub count : ℕ
  pub addition : Addition
  pub new_to : TellsRows device old → AreNewTo new.history addition
  pub before : List Fill
  pub behind : List Fill
  pub each : AllByRecursion IsFaultOfRead (before ++ behind)
  pub faults : faults_in new.fills ≡ faults_in old.fills ++ (before ++ Fault count true addition ∷ behind)
  pub wrote : device.failed_writes new.disk ≡ raised (device.failed_writes old.disk)
  pub rose : raised (device.fault_count old.disk) ≤ device.fault_count new.disk
  pub plain : old.sealed ≡ 0 → (before ≡ []) × (behind ≡ [])

-- no database came, so the one in force and the packet names are the same
pub record SameDatabase {D : Type 0} (old new : StoreView D) : Type 0 where
  pub alone : databases_in new.history ≡ databases_in old.history
  pub in_force : database_in new.head.mdb new.history ≡ database_in old.head.mdb old.history
  pub names : names_in new.head.mdb new.history ≡ names_in old.head.mdb old.history

-- the interval has a fill that came since, and which is right for the history
pub record HasNewFill {D : Type 0} (old new : StoreView D) (interval : Interval) : Type 0 where
  pub fill : Filling (List SetRow)
  pub has : fillings_in new.filled interval ≡ Some fill
  pub place : ℕ
  pub since : length old.fills ≤ place
  pub there : slice_get new.fills place ≡ Some (Done interval fill.base)
  pub right : IsRightFill old.exponent old.head.mdb new.history interval fill.base fill.set

-- it has the fill that it had, or such a one
abbrev pub HasFillOrNew : {D : Type 0} → StoreView D → StoreView D → Interval → Type 0
HasFillOrNew old new interval =
    (fillings_in new.filled interval ≡ fillings_in old.filled interval) ⊎ HasNewFill old new interval

-- Both lists go on from the first ones, under one database. Each record more is one of an item or of a fill, and each
-- fill more has one. One write of the disk failed at most, and while a failed write is pending no row comes.
-- Where the disk is transparent, each interval has the fill that it had, or a right one since; and what power lost
-- since an earlier store leaves lies between that store and this one, if it did up to the first.
pub record GoesOn {D : Type 0} (device : Device D) (first now : StoreView D) : Type 0 where
  pub appends : OnlyAppends first now
  pub database : SameDatabase first now
  pub records : now.records + length first.history + dones first.fills
      ≤ first.records + length now.history + dones now.fills
  pub recorded : first.records + dones now.fills ≤ now.records + dones first.fills
  pub faults : NoneFailed device first now ⊎ OneFailed device first now
  pub stops : pending_fault_of first.fills ≢ None → now.history ≡ first.history
  pub sets : IsTrue device.is_transparent → (interval : Interval) → HasFillOrNew first now interval
  pub images : IsTrue device.is_transparent → (start : StoreView D) →
      LeavesBetween device start first → LeavesBetween device start now
