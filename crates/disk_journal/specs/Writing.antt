-- A journal that is written whole, into a file that nothing names yet.
use Rattle.std.specs.Prelude.{◌≡◌, ℕ, ◌+◌, ◌-◌, ◌^◌, ◌<◌, ◌≤◌, List, [], ◌∷◌, ◌++◌, length, true, IsTrue, None}
use Rattle.arch_disk.specs.Disk.{Device, IsDiskFault, NoWriteFailed}
use Rattle.disk_journal.specs.Format.{AreSmall, written}
use Rattle.disk_journal.specs.State.{HasOnDisk, count_of, extents_from, file_of, unhealed_fault}
use Rattle.disk_journal.specs.declared.journal.Journal.{Journal}
use Rattle.disk_journal.specs.declared.writer.JournalWriter.{JournalWriter}
use Rattle.disk_journal.specs.declared.fault.JournalFault.{JournalFault}
use Rattle.disk_journal.specs.declared.fault.JournalFault.TheVariants.{DiskFault, Limit, OutOfMemory}

-- the file that is written
abbrev pub file_written : JournalWriter → ℕ
file_written writer = writer.file

-- how many records were written
abbrev pub count_written : JournalWriter → ℕ
count_written writer = length writer.extents.items

-- the file has records of just these bodies and an open gate behind them, and it is known where each body stands
pub record HasWritten {D : Type 0} (device : Device D) (writer : JournalWriter) (bodies : List (List ℕ)) (disk : D)
    : Type 0 where
  pub small : AreSmall bodies
  pub extents : writer.extents.items ≡ extents_from 0 bodies
  pub end : writer.end ≡ length (written bodies)
  pub content : device.reads disk (file_written writer) ≡ written bodies ++ 1 ∷ []

-- the file has the records that were written, whatever these are
abbrev pub IsWriting : {D : Type 0} → Device D → JournalWriter → D → Type 0
IsWriting device writer disk =
    IsTrue device.is_transparent → (bodies : List (List ℕ)) × HasWritten device writer bodies disk

-- no record is written yet
pub record IsWritingBegun {D : Type 0} (device : Device D) (file : ℕ) (before after : D) (writer : JournalWriter)
    : Type 0 where
  pub in_file : file_written writer ≡ file
  pub none_written : count_written writer ≡ 0
  pub records : IsTrue device.is_transparent → HasWritten device writer [] after
  pub no_failed_write : NoWriteFailed device before after

-- the record stands behind those that were written before
pub record IsRecordWritten {D : Type 0} (device : Device D) (old new : JournalWriter) (before after : D) (body : List ℕ)
    : Type 0 where
  pub in_file : file_written new ≡ file_written old
  pub below : count_written old < 2 ^ 32 - 1
  pub count : count_written new ≡ count_written old + 1
  pub records : IsTrue device.is_transparent → (bodies : List (List ℕ)) →
      HasWritten device old bodies before → HasWritten device new (bodies ++ body ∷ []) after
  pub no_failed_write : NoWriteFailed device before after

-- the journal has just the records that were written, durably
pub record IsJournalWritten {D : Type 0} (device : Device D) (writer : JournalWriter) (before after : D)
    (journal : Journal) : Type 0 where
  pub in_file : file_of journal ≡ file_written writer
  pub count : count_of journal ≡ count_written writer
  pub no_pending_fault : unhealed_fault journal ≡ None
  pub records : IsTrue device.is_transparent → (bodies : List (List ℕ)) →
      HasWritten device writer bodies before → HasOnDisk device journal bodies [] after
  pub no_failed_write : NoWriteFailed device before after

-- a journal isn't begun or finished for one failed write alone
abbrev pub IsWriteRefusal : {D : Type 0} → Device D → D → D → JournalFault → Type 0
IsWriteRefusal device before after (DiskFault true) = IsDiskFault device before after true
IsWriteRefusal device before after _ = ⊥

-- why a record isn't added: a journal may have no more, or memory is wanting, and no call is made; or one write failed
abbrev pub IsAddRefusal : {D : Type 0} → Device D → JournalWriter → D → D → JournalFault → Type 0
IsAddRefusal device writer before after Limit = (2 ^ 32 - 1 ≤ count_written writer) × (after ≡ before)
IsAddRefusal device writer before after OutOfMemory = (count_written writer < 2 ^ 32 - 1) × (after ≡ before)
IsAddRefusal device writer before after (DiskFault true) =
    (count_written writer < 2 ^ 32 - 1) × IsDiskFault device before after true
IsAddRefusal device writer before after _ = ⊥
