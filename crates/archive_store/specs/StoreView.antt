-- What contracts see of a store, and what its type keeps.
use Rattle.std.specs.Prelude.{◌≡◌, ◌⊎◌, ℕ, ◌^◌, ◌≤◌, ◌-◌, Bool, List, [], ◌∷◌, ◌++◌, min, Contains, Option, Some}
use mathlib.Core.List.{IsPrefix}
use Rattle.arch_disk.specs.Image.{Image}
use Rattle.arch_disk.specs.Disk.{Device, LeavesOnly, raised, writes_after}
use Rattle.history_items.specs.declared.fills.Fill.{Fill}
use Rattle.history_items.specs.declared.fills.Addition.{Addition}
use Rattle.history_items.specs.declared.fills.Fill.TheVariants.{Fault}
use Rattle.history_items.specs.declared.items.Item.{Item}
use Rattle.history_items.specs.Fills.{rows_of_faults, pending_fault_of, unacknowledged_in, Rising, above}
use Rattle.archive_images.specs.declared.head.Head.{Head}
use Rattle.store_fills.specs.LastFills.{PlacedFills, fillings_in}
use Rattle.archive_images.specs.Entries.{Archive, FilledArchive, archive, filled_archive}
use Rattle.archive_images.specs.Stands.{StandsFilled, StandsFor, IsSoundImage}
use Rattle.archive_images.specs.Unacknowledged.{IsUnacknowledged}

-- the history and the fill list, the fills that are there, the head, the exponent of the intervals, how many records
-- the journal has, the disk, the disk as it was at the opening, and how many rows stand in runs: the first ones of the
-- history
pub record StoreView (D : Type 0) : Type 0 where
  pub history : List Item
  pub fills : List Fill
  pub filled : PlacedFills
  pub head : Head
  pub exponent : ℕ
  pub records : ℕ
  pub disk : D
  pub opened : D
  pub sealed : ℕ

-- what a store stands for
abbrev pub archive_of : {D : Type 0} → StoreView D → Archive
archive_of store = archive store.head store.exponent store.history

-- the same with its fills
abbrev pub filled_of : {D : Type 0} → StoreView D → FilledArchive
filled_of store = filled_archive store.head store.exponent store.history (fillings_in store.filled)

-- An image stands for a prefix of the history that holds the history of the opening, or for such a prefix followed by
-- the rows that one fault holds.
pub record IsSince (head : Head) (exponent : ℕ) (before history : List Item) (in_faults : List (List Item))
    (image : Image) : Type 0 where
  pub front : List Item
  pub holds : IsPrefix before front
  pub begins : IsPrefix front history
  pub stands : StandsFor image (archive head exponent front)
      ⊎ ((more : List Item) × Contains in_faults more × StandsFor image (archive head exponent (front ++ more)))

-- What a crash now may leave: the archive with its fills, or, where a failed write is pending, what that may have made
-- of it by what its call would have added.
abbrev pub IsNow : FilledArchive → Option Addition → Image → Type 0
IsNow filled pending image =
    StandsFilled image filled
    ⊎ ((after : FilledArchive) × IsUnacknowledged filled pending after × StandsFilled image after)

-- where the disk is transparent: what a crash now may leave, and what a crash at any moment since the opening's syncs
-- may have left, which has sound fills if the disk of the opening had
pub record CrashInvariant {D : Type 0} (device : Device D) (store : StoreView D) : Type 0 where
  pub before : List Item
  pub opening : StandsFor (device.reads store.opened) (archive store.head store.exponent before)
  pub begins : IsPrefix before store.history
  pub now : (c : Image) → device.images store.disk c →
      IsNow (filled_of store) (unacknowledged_in store.fills) c
  pub since : LeavesOnly device store.opened store.disk
      (IsSince store.head store.exponent before store.history (rows_of_faults store.fills))
  pub sound : IsSoundImage (device.reads store.opened) → LeavesOnly device store.opened store.disk IsSoundImage

-- a crash now leaves the archive with its fills
abbrev pub IsKeptWithFills : {D : Type 0} → Device D → StoreView D → Type 0
IsKeptWithFills device store = (c : Image) → device.images store.disk c → StandsFilled c (filled_of store)

-- always: the count of each fault is above the count at the opening and that of each earlier fault, and not above the
-- count now; one with a failed write is there only where the count of failed writes is above its value at the opening
pub record FaultInvariant {D : Type 0} (device : Device D) (store : StoreView D) : Type 0 where
  pub rising : Rising (above (device.fault_count store.opened)) (device.fault_count store.disk) store.fills
  pub later : device.fault_count store.opened ≤ device.fault_count store.disk
  pub writes_later : device.failed_writes store.opened ≤ device.failed_writes store.disk
  pub wrote : (faults : ℕ) → pending_fault_of store.fills ≡ Some faults →
      raised (device.failed_writes store.opened) ≤ device.failed_writes store.disk

-- a call of which the disk failed adds one fault, which says whether a write failed and holds what it would have added,
-- and leaves history and records
pub record AddsFault {D : Type 0} (device : Device D) (old new : StoreView D) (wrote : Bool) (addition : Addition)
    : Type 0 where
  pub history : new.history ≡ old.history
  pub filled : new.filled ≡ old.filled
  pub records : new.records ≡ old.records
  pub count : ℕ
  pub count_is : count ≡ min (device.fault_count new.disk) (2 ^ 64 - 1)
  pub fills : new.fills ≡ old.fills ++ Fault count wrote addition ∷ []
  pub rose : raised (device.fault_count old.disk) ≤ device.fault_count new.disk
  pub writes : device.failed_writes new.disk ≡ writes_after wrote (device.failed_writes old.disk)

-- both lists begin with the old ones, and head, exponent and opening stay, and which rows stand in runs
pub record OnlyAppends {D : Type 0} (old new : StoreView D) : Type 0 where
  pub history : IsPrefix old.history new.history
  pub fills : IsPrefix old.fills new.fills
  pub head : new.head ≡ old.head
  pub exponent : new.exponent ≡ old.exponent
  pub opened : new.opened ≡ old.opened
  pub sealed : new.sealed ≡ old.sealed
