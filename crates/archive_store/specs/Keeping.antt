-- What the type of a store keeps.
use Rattle.std.specs.Prelude.{◌≡◌, ◌≢◌, ◌⊎◌, ◌+◌, ◌<◌, ◌^◌, length, IsTrue, None}
use Rattle.std.specs.List.{AllByRecursion}
use Rattle.arch_disk.specs.Disk.{Device}
use Rattle.arch_types.specs.History.{IsHistory}
use Rattle.field_codec.specs.declared.entry.Entry.TheVariants as entries
use Rattle.field_codec.specs.Entries.{IsArchiveEntry}
use Rattle.intervals.specs.declared.interval.Interval.{Interval}
use Rattle.history_items.specs.Databases.{names_in}
use Rattle.history_items.specs.Fills.{base_in, pending_fault_of}
use Rattle.history_items.specs.Items.{rows_in}
use Rattle.archive_history.specs.Limits.{IsWithin}
use Rattle.store_fills.specs.LastFills.{fillings_in}
use Rattle.store_fills.specs.Sound.{base_of_filling}
use Rattle.archive_images.specs.Entries.{IsArchivedRow, IsSoundArchive}
use Rattle.archive_images.specs.Stands.{HasRecordCount, IsSoundImage}
use Rattle.archive_store.specs.StoreView.{CrashInvariant, FaultInvariant, IsKeptWithFills, StoreView, filled_of}

-- the journal's file has as many records as are counted, or, while a failed write is pending, one more
abbrev pub HasCountedRecords : {D : Type 0} → Device D → StoreView D → Type 0
HasCountedRecords device store =
    HasRecordCount (device.reads store.disk) store.records
    ⊎ ((pending_fault_of store.fills ≢ None) × HasRecordCount (device.reads store.disk) (store.records + 1))

-- what a store keeps of its head, its history, its fills and its disk, whatever was done with it
pub record IsKept {D : Type 0} (device : Device D) (store : StoreView D) : Type 0 where
  -- a record can hold the head, and numbers of packet names have 16 bits
  pub head : IsArchiveEntry (entries.Head store.head.tables store.head.mdb)
  pub few_names : length (names_in store.head.mdb store.history) < 2 ^ 16
  -- the rows are a history within the limits, and each is one that the archive may have
  pub history : IsHistory (rows_in store.history) × IsWithin store.exponent (rows_in store.history)
  pub rows : AllByRecursion (IsArchivedRow store.head store.history) (rows_in store.history)
  -- the fill list and the fills that are there tell one base of each interval
  pub bases : (i : Interval) → base_in i store.fills ≡ base_of_filling (fillings_in store.filled) i
  -- the fills are sound if those of the disk were when it was opened
  pub sound : IsTrue device.is_transparent → IsSoundImage (device.reads store.opened) → IsSoundArchive (filled_of store)
  -- how its faults stand to the disk's counts, and what a crash may leave
  pub faults : FaultInvariant device store
  pub images : IsTrue device.is_transparent → CrashInvariant device store
  -- while no failed write is pending, each image of now stands for the history with its fills, and nothing more
  pub kept : IsTrue device.is_transparent → pending_fault_of store.fills ≡ None → IsKeptWithFills device store
  -- and the records of the journal's file are counted
  pub records : IsTrue device.is_transparent → HasCountedRecords device store
