-- What the calls of a store answer, and what each answer leaves of the store and of its disk.
use Rattle.std.specs.Prelude.{◌≡◌, ◌≢◌, ◌≤◌, ◌⊎◌, ℕ, ◌+◌, ◌++◌, List, [], length, map, Contains, true, IsTrue, None, Some, Result, Ok, Err, IsErrAnd, MatchResult}
use Rattle.std.specs.List.{AllByRecursion}
use Rattle.arch_disk.specs.Image.{Image}
use Rattle.arch_disk.specs.Disk.{Device, LeavesOnly, NoFault, NoWriteFailed, raised}
use Rattle.arch_types.specs.declared.inserted.Inserted.{Inserted}
use Rattle.refusals.specs.declared.refusal.Refusal.{Refusal}
use Rattle.refusals.specs.declared.refusal.Refusal.TheVariants.{NoArchive, Exists, Damaged, DiskFault, NeedsReopen, Limit, OutOfMemory}
use Rattle.refusals.specs.declared.refusal.Which.{Which}
use Rattle.arch_types.specs.declared.row.Row.{Row}
use Rattle.refusals.specs.Limits.{limit_of}
use Rattle.history_items.specs.declared.fills.Addition.TheVariants.{Rows}
use Rattle.history_items.specs.Fills.{pending_fault_of, reopened, unacknowledged_in}
use Rattle.store_fills.specs.Faults.{IsDone}
use Rattle.history_items.specs.Items.{after_rows, items_of}
use Rattle.history_items.specs.Outcomes.{outcomes_of, fresh_of}
use Rattle.archive_store.specs.Limits.{IsLimit, IsBelowLimits}
use Rattle.field_codec.specs.declared.entry.Entry.{Entry}
use Rattle.intervals.specs.Interval.{format_1_exponent}
use Rattle.field_codec.specs.Spelling.{entry_octets}
use Rattle.disk_journal.specs.Calls.{BeginsOpen, IsJournalCreateFailed, IsJournalOpenFailed}
use Rattle.disk_journal.specs.Format.{HasRecords, HoldsNone}
use Rattle.store_fills.specs.LastFills.{fillings_in}
use Rattle.store_fills.specs.Sound.{no_fillings}
use Rattle.archive_images.specs.declared.head.Head.{Head}
use Rattle.archive_images.specs.Entries.{Archive, FilledArchive, archive, dones_of, filled_archive}
use Rattle.archive_store.specs.Pages.{TellsRows}
use Rattle.archive_images.specs.Stands.{HasRecordCount, IsSoundImage, StandsFilled, StandsFor, IsArchiveDamagedAt}
use Rattle.archive_store.specs.StoreView.{StoreView, AddsFault, IsKeptWithFills, IsNow, archive_of, filled_of}
use Rattle.archive_store.specs.UnreadRows.{IsLeftByRefusal, IsReadRefusal, ReadsRows}

-- ---- crashes

-- what a store stands for once rows came to it, with its fills
abbrev pub archive_with : {D : Type 0} → StoreView D → List Row → FilledArchive
archive_with store rows =
    filled_archive store.head store.exponent (after_rows store.history rows) (fillings_in store.filled)

-- Where the disk is transparent, power lost at any moment of a call leaves one archive or the other, with its fills.
abbrev pub CrashLeavesEither : {D : Type 0} → Device D → D → D → FilledArchive → FilledArchive → Type 0
CrashLeavesEither device before after old new =
    IsTrue device.is_transparent → LeavesOnly device before after (λ c. StandsFilled c old ⊎ StandsFilled c new)

-- Where the disk is transparent, power lost at any moment of a call leaves the store's archive with its fills, or what
-- a failed write may have made of it.
abbrev pub CrashLeavesNow : {D : Type 0} → Device D → StoreView D → D → Type 0
CrashLeavesNow device store after =
    IsTrue device.is_transparent →
    LeavesOnly device store.disk after (IsNow (filled_of store) (unacknowledged_in store.fills))

-- an image of before, or one that holds no archive, or one of the head alone
abbrev pub IsCreateImage : (Image → Type 0) → Head → Image → Type 0
IsCreateImage before head image =
    before image ⊎ (HoldsNone (image 0) ⊎ StandsFor image (archive head format_1_exponent []))

-- Where a disk held no archive, power lost at any moment leaves it without one or with the head alone, or what it could
-- have left before.
abbrev pub CrashLeavesHead : {D : Type 0} → Device D → D → D → Head → Type 0
CrashLeavesHead device before after head =
    IsTrue device.is_transparent → HoldsNone (device.reads before 0) →
    LeavesOnly device before after (IsCreateImage (device.images before) head)

-- ---- ingests

-- what a store that tells its rows finds of a batch: these are its new rows, and no limit is passed with them
pub record IsFreshBatch {D : Type 0} (old : StoreView D) (rows fresh : List Row) : Type 0 where
  pub fresh_is : fresh ≡ fresh_of old.history rows
  pub below : IsBelowLimits old.exponent old.records old.history rows

-- the new rows stand behind the history, in one record more; without such rows nothing was written; each row has an
-- outcome
pub record AreIngested {D : Type 0} (device : Device D) (old new : StoreView D) (rows : List Row)
    (outcomes : List Inserted) : Type 0 where
  pub healed : pending_fault_of old.fills ≡ None
  pub fresh : List Row
  pub of_batch : AllByRecursion (Contains rows) fresh
  pub few : length fresh ≤ length rows
  pub told : TellsRows device old → IsFreshBatch old rows fresh
  pub each : length outcomes ≡ length rows
  pub outcomes_are : TellsRows device old → outcomes ≡ outcomes_of old.history rows
  pub history : new.history ≡ old.history ++ items_of fresh
  pub fills : new.fills ≡ old.fills
  pub filled : new.filled ≡ old.filled
  pub one_record : fresh ≢ [] → new.records ≡ old.records + 1
  pub no_write : fresh ≡ [] → ReadsRows device old new
  pub no_failed_write : NoWriteFailed device old.disk new.disk
  pub no_fault : NoFault device old.disk new.disk

-- some rows are new, and this is the first limit that is passed with them
pub record PassesLimit {D : Type 0} (old : StoreView D) (rows : List Row) (which : Which) (number : ℕ) : Type 0 where
  pub some_new : fresh_of old.history rows ≢ []
  pub number_is : number ≡ limit_of which
  pub first : IsLimit old.exponent which old.records (after_rows old.history rows)

-- the disk failed at the record of the new rows: one fault more holds these, and all else but the disk is as before
pub record IsIngestFailed {D : Type 0} (device : Device D) (old new : StoreView D) (rows : List Row) : Type 0 where
  pub healed : pending_fault_of old.fills ≡ None
  pub fresh : List Row
  pub some_new : fresh ≢ []
  pub of_batch : AllByRecursion (Contains rows) fresh
  pub few : length fresh ≤ length rows
  pub told : TellsRows device old → IsFreshBatch old rows fresh
  pub fault : AddsFault device old new true (Rows fresh)

-- what tells which rows are new wasn't read
pub record IsBatchUnread {D : Type 0} (device : Device D) (old new : StoreView D) (refusal : Refusal) : Type 0 where
  pub healed : pending_fault_of old.fills ≡ None
  pub unread : IsReadRefusal device old new refusal
  pub left : IsLeftByRefusal device old new refusal

-- Why a batch is refused, in the order in which it looks, and what that leaves: NeedsReopen, rows that aren't read, the
-- limits, want of memory, and then a failed write.
abbrev pub IsIngestRefusal : {D : Type 0} → Device D → StoreView D → StoreView D → List Row → Refusal → Type 0
IsIngestRefusal device old new rows (NeedsReopen faults) = (pending_fault_of old.fills ≡ Some faults) × (new ≡ old)
IsIngestRefusal device old new rows (Damaged file at) = IsBatchUnread device old new (Damaged file at)
IsIngestRefusal device old new rows (Limit which number) =
    (pending_fault_of old.fills ≡ None) × (TellsRows device old → PassesLimit old rows which number)
    × ReadsRows device old new
IsIngestRefusal device old new rows OutOfMemory = (pending_fault_of old.fills ≡ None) × ReadsRows device old new
IsIngestRefusal device old new rows DiskFault =
    IsIngestFailed device old new rows ⊎ IsBatchUnread device old new DiskFault
IsIngestRefusal device old new rows _ = ⊥

-- the rows stand behind the history, in one record more
pub record AreAppended {D : Type 0} (device : Device D) (old new : StoreView D) (rows : List Row) : Type 0 where
  pub history : new.history ≡ old.history ++ items_of rows
  pub fills : new.fills ≡ old.fills
  pub filled : new.filled ≡ old.filled
  pub records : new.records ≡ old.records + 1
  pub no_failed_write : NoWriteFailed device old.disk new.disk
  pub no_fault : NoFault device old.disk new.disk

-- why rows were not appended, and what that leaves
abbrev pub IsRowsRefusal : {D : Type 0} → Device D → StoreView D → StoreView D → List Row → Refusal → Type 0
IsRowsRefusal device old new rows DiskFault = AddsFault device old new true (Rows rows)
IsRowsRefusal device old new rows OutOfMemory = new ≡ old
IsRowsRefusal device old new rows _ = ⊥

-- ---- reopens

-- the failed writes of the fill list are cleared, and every image stands for the history with the fills; where none was
-- pending no call of the disk was made
pub record IsStoreReopened {D : Type 0} (device : Device D) (old new : StoreView D) : Type 0 where
  pub store : new ≡ record old { fills = reopened old.fills; disk = new.disk }
  pub healed : pending_fault_of new.fills ≡ None
  pub images : IsTrue device.is_transparent → IsKeptWithFills device new
  pub no_call : pending_fault_of old.fills ≡ None → new.disk ≡ old.disk
  pub no_failed_write : NoWriteFailed device old.disk new.disk
  pub no_fault : NoFault device old.disk new.disk

-- the disk failed again: all but the disk is as before
pub record IsReopenFailed {D : Type 0} (device : Device D) (old new : StoreView D) : Type 0 where
  pub unhealed : pending_fault_of old.fills ≢ None
  pub store : new ≡ record old { disk = new.disk }
  pub rose : raised (device.fault_count old.disk) ≤ device.fault_count new.disk
  pub wrote : device.failed_writes new.disk ≡ raised (device.failed_writes old.disk)

-- a reopen is refused for a fault of the disk alone
abbrev pub IsStoreReopenRefusal : {D : Type 0} → Device D → StoreView D → StoreView D → Refusal → Type 0
IsStoreReopenRefusal device old new DiskFault = IsReopenFailed device old new
IsStoreReopenRefusal device old new _ = ⊥

-- ---- openings and creations

-- the disk that a call gives back, in its store or beside its refusal
abbrev pub disk_of : {D : Type 0} → Result (StoreView D) (D × Refusal) → D
disk_of (Ok store) = store.disk
disk_of (Err refused) = refused.0

-- the disk as it was once an opening's sync was done, or beside its refusal
abbrev pub opened_disk_of : {D : Type 0} → Result (StoreView D) (D × Refusal) → D
opened_disk_of (Ok store) = store.opened
opened_disk_of (Err refused) = refused.0

-- The store is what the disk stands for, of as many records as file 0 has, of the exponent of format 1, without a fault
-- or a flight, and with each fill that was read, in their order; and power lost at any moment from the opening's syncs
-- on leaves that, with its fills.
pub record IsStoreOpened {D : Type 0} (device : Device D) (disk : D) (store : StoreView D) : Type 0 where
  pub stands : IsTrue device.is_transparent → StandsFor (device.reads disk) (archive_of store)
  pub records : IsTrue device.is_transparent → HasRecordCount (device.reads disk) store.records
  pub exponent : store.exponent ≡ format_1_exponent
  pub fills : AllByRecursion IsDone store.fills
  pub dones : IsTrue device.is_transparent →
      (es : List Entry) × HasRecords (device.reads disk 0) (map entry_octets es) × (store.fills ≡ dones_of es)
  pub filled : IsTrue device.is_transparent → StandsFilled (device.reads disk) (filled_of store)
  pub opening : device.reads store.opened ≡ device.reads disk
  pub since : IsTrue device.is_transparent →
      LeavesOnly device store.opened store.disk (λ c. StandsFilled c (filled_of store))
  pub no_failed_write : NoWriteFailed device disk store.disk
  pub no_fault : NoFault device disk store.disk

-- the disk holds no archive
pub record FindsNoArchive {D : Type 0} (device : Device D) (before after : D) : Type 0 where
  pub none : IsTrue device.is_transparent → HoldsNone (device.reads before 0)
  pub no_failed_write : NoWriteFailed device before after
  pub no_fault : NoFault device before after

-- the archive is damaged in file 0, at this gate
pub record FindsDamage {D : Type 0} (device : Device D) (before after : D) (file at : ℕ) : Type 0 where
  pub damaged : IsTrue device.is_transparent → (file ≡ 0) × IsArchiveDamagedAt (device.reads before) at
  pub no_failed_write : NoWriteFailed device before after
  pub no_fault : NoFault device before after

-- why an archive is not opened: none is there, it is damaged at a gate of file 0, the disk failed, or memory is wanting
abbrev pub IsStoreOpenRefusal : {D : Type 0} → Device D → D → D → Refusal → Type 0
IsStoreOpenRefusal device before after NoArchive = FindsNoArchive device before after
IsStoreOpenRefusal device before after (Damaged file at) = FindsDamage device before after file at
IsStoreOpenRefusal device before after DiskFault = IsJournalOpenFailed device before after
IsStoreOpenRefusal device before after OutOfMemory = NoWriteFailed device before after × NoFault device before after
IsStoreOpenRefusal device before after _ = ⊥

-- a refusal that may come whatever the disk holds
abbrev pub IsOutsideRefusal : Refusal → Type 0
IsOutsideRefusal refusal = (refusal ≡ DiskFault) ⊎ (refusal ≡ OutOfMemory)

-- What the disk reads as decides the answer of an opening, but for a fault of the disk and want of memory.
pub record IsDecidedByImage {D : Type 0} (image : Image) (result : Result (StoreView D) (D × Refusal)) : Type 0 where
  pub none : HoldsNone (image 0) → IsErrAnd result (λ e. (e.1 ≡ NoArchive) ⊎ IsOutsideRefusal e.1)
  pub damaged : (at : ℕ) → IsArchiveDamagedAt image at → IsErrAnd result (λ e. (e.1 ≡ Damaged 0 at) ⊎ IsOutsideRefusal e.1)
  pub stands : (archive : Archive) → StandsFor image archive →
      MatchResult result (λ s. archive_of s ≡ archive) (λ e. IsOutsideRefusal e.1)

-- the disk held no archive, and holds one of this head and of format 1 without rows
pub record IsStoreCreated {D : Type 0} (device : Device D) (disk : D) (head : Head) (store : StoreView D) : Type 0 where
  pub none : IsTrue device.is_transparent → HoldsNone (device.reads disk 0)
  pub history : store.history ≡ []
  pub fills : store.fills ≡ []
  pub filled : fillings_in store.filled ≡ no_fillings
  pub sound : IsTrue device.is_transparent → IsSoundImage (device.reads store.opened)
  pub head_is : store.head ≡ head
  pub exponent : store.exponent ≡ format_1_exponent
  pub records : store.records ≡ 1
  pub sealed : store.sealed ≡ 0
  pub opened : store.opened ≡ store.disk
  pub no_failed_write : NoWriteFailed device disk store.disk
  pub no_fault : NoFault device disk store.disk

-- file 0 begins with an open gate, and the disk reads as before
pub record FindsArchive {D : Type 0} (device : Device D) (before after : D) : Type 0 where
  pub held : IsTrue device.is_transparent → BeginsOpen (device.reads before 0)
  pub reads : IsTrue device.is_transparent → device.reads after ≡ device.reads before
  pub no_failed_write : NoWriteFailed device before after
  pub no_fault : NoFault device before after

-- why no archive is made, and what that leaves
abbrev pub IsStoreCreateRefusal : {D : Type 0} → Device D → D → D → Refusal → Type 0
IsStoreCreateRefusal device before after Exists = FindsArchive device before after
IsStoreCreateRefusal device before after DiskFault = IsJournalCreateFailed device 0 before after
IsStoreCreateRefusal device before after OutOfMemory = after ≡ before
IsStoreCreateRefusal device before after _ = ⊥
