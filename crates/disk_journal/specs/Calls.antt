-- What the calls of a journal answer, and what each answer leaves on the disk.
use Rattle.std.specs.Prelude.{◌≡◌, ◌≢◌, ◌⊎◌, ℕ, ◌+◌, ◌-◌, ◌^◌, ◌<◌, ◌≤◌, ◌++◌, List, [], ◌∷◌, length, take, drop, map, get_or, min, true, false, IsTrue, Option, Some, None, Result, IfErr, IsErrAnd}
use Rattle.std.specs.Int.{w32, from_be_bytes}
use Rattle.arch_disk.specs.Image.{Image}
use Rattle.arch_disk.specs.Disk.{Device, IsDiskFault, IsDurable, LeavesOnly, NoWriteFailed, raised}
use Rattle.disk_journal.specs.Faults.{IsFailure, TellsWrites}
use Rattle.disk_journal.specs.Format.{HasRecords, IsDamagedAt, HoldsNone}
use Rattle.disk_journal.specs.Reading.{IsAt, IsCutShortAt, gate_of, file_read}
use Rattle.disk_journal.specs.State.{HasOnDisk, HasRoom, IsReadFrom, count_of, file_of, unhealed_fault}
use Rattle.disk_journal.specs.declared.journal.Extent.{Extent}
use Rattle.disk_journal.specs.declared.journal.Journal.{Journal}
use Rattle.disk_journal.specs.declared.journal.PendingFault.{PendingFault}
use Rattle.disk_journal.specs.declared.journal.PendingFault.TheVariants.{Absent, GateClosed, GateWritten}
use Rattle.disk_journal.specs.declared.opening.Opening.{Opening}
use Rattle.disk_journal.specs.declared.fault.JournalFault.{JournalFault}
use Rattle.disk_journal.specs.declared.fault.JournalFault.TheVariants.{Exists, NoArchive, Damaged, NeedsReopen, Limit, DiskFault, OutOfMemory}

-- the body at an extent of a file
abbrev pub body_of : List ℕ → Extent → List ℕ
body_of content extent = take extent.len (drop extent.at content)

-- the bodies that the journal's extents name in what its file reads as
abbrev pub records_of : {D : Type 0} → Device D → Journal → D → List (List ℕ)
records_of device journal disk = map (body_of (device.reads disk (file_of journal))) journal.extents.items

-- the body of the record behind the gate at this octet of a file, whatever the gate is
abbrev pub body_behind : List ℕ → ℕ → List ℕ
body_behind content gate = take (from_be_bytes w32 (take 4 (drop (gate + 1) content))) (drop (gate + 5) content)

-- the body behind the gate that follows the journal's records
abbrev pub next_body_of : {D : Type 0} → Device D → Journal → D → List ℕ
next_body_of device journal disk = body_behind (device.reads disk (file_of journal)) journal.end

-- a body, where a gate may have been written before it
abbrev pub if_gate_written : PendingFault → List ℕ → List (List ℕ)
if_gate_written Absent body = []
if_gate_written (GateClosed faults) body = []
if_gate_written (GateWritten faults) body = body ∷ []

-- the bodies that a crash may leave behind the records until a heal: that of the record whose gate may have been
-- written
abbrev pub unhealed_records_of : {D : Type 0} → Device D → Journal → D → List (List ℕ)
unhealed_records_of device journal disk = if_gate_written journal.pending_fault (next_body_of device journal disk)

-- Power lost at any moment of a call leaves in the journal's file the records from before it, alone or with these after
-- them.
abbrev pub CrashLeavesRecords : {D : Type 0} → Device D → Journal → D → D → List (List ℕ) → Type 0
CrashLeavesRecords device journal before after more = IsTrue device.is_transparent → LeavesOnly device before after
    (λ c. HasRecords (c (file_of journal)) (records_of device journal before)
    ⊎ HasRecords (c (file_of journal)) (records_of device journal before ++ more))

-- neither the count of faults nor that of failed writes has fallen
pub record CountsNeverFall {D : Type 0} (device : Device D) (old new : D) : Type 0 where
  pub faults : device.fault_count old ≤ device.fault_count new
  pub writes : device.failed_writes old ≤ device.failed_writes new

-- the record is the journal's last one, and durable
pub record IsAppended {D : Type 0} (device : Device D) (old new : Journal) (before after : D) (body : List ℕ)
    (place : ℕ) : Type 0 where
  pub healed : unhealed_fault old ≡ None
  pub below : count_of old < 2 ^ 32 - 1
  pub place_is : place ≡ count_of old
  pub count : count_of new ≡ place + 1
  pub records : IsTrue device.is_transparent → HasOnDisk device new (records_of device old before ++ body ∷ []) [] after
  pub no_pending_fault : unhealed_fault new ≡ None
  pub no_failed_write : NoWriteFailed device before after

-- a write failed: the records are as before, and the new one may follow them until a heal
pub record IsAppendFailed {D : Type 0} (device : Device D) (old new : Journal) (before after : D)
    (body : List ℕ) : Type 0 where
  pub healed : unhealed_fault old ≡ None
  pub below : count_of old < 2 ^ 32 - 1
  pub count : count_of new ≡ count_of old
  pub room : HasRoom new
  pub records : IsTrue device.is_transparent → HasOnDisk device new (records_of device old before) body after
  pub pending_fault : unhealed_fault new ≡ Some (min (device.fault_count after) (2 ^ 64 - 1))
  pub rose : raised (device.fault_count before) ≤ device.fault_count after
  pub wrote : device.failed_writes after ≡ raised (device.failed_writes before)

-- why an append is refused, in the order in which it looks, and what it leaves
abbrev pub IsAppendRefusal : {D : Type 0} → Device D → Journal → Journal → D → D → List ℕ → JournalFault → Type 0
IsAppendRefusal device old new before after body (NeedsReopen faults) =
    (unhealed_fault old ≡ Some faults) × (new ≡ old) × (after ≡ before)
IsAppendRefusal device old new before after body Limit =
    (unhealed_fault old ≡ None) × (2 ^ 32 - 1 ≤ count_of old) × (new ≡ old) × (after ≡ before)
IsAppendRefusal device old new before after body (DiskFault true) = IsAppendFailed device old new before after body
IsAppendRefusal device old new before after body _ = ⊥

-- no failure is pending, all else of the journal is as before, and its records stand alone; where nothing was pending
-- no call of the disk was made
pub record IsHealed {D : Type 0} (device : Device D) (old new : Journal) (before after : D) : Type 0 where
  pub journal : new ≡ record old { pending_fault = Absent }
  pub records : IsTrue device.is_transparent → HasOnDisk device new (records_of device old before) [] after
  pub no_call : unhealed_fault old ≡ None → after ≡ before
  pub no_failed_write : NoWriteFailed device before after

-- a write failed again: the journal is as before, and the record whose append failed may still follow the others
pub record IsHealFailed {D : Type 0} (device : Device D) (old new : Journal) (before after : D) : Type 0 where
  pub unhealed : unhealed_fault old ≢ None
  pub journal : new ≡ old
  pub records : IsTrue device.is_transparent →
      HasOnDisk device new (records_of device old before) (next_body_of device old before) after
  pub rose : raised (device.fault_count before) ≤ device.fault_count after
  pub wrote : device.failed_writes after ≡ raised (device.failed_writes before)

-- a heal is refused for a write that failed alone
abbrev pub IsHealRefusal : {D : Type 0} → Device D → Journal → Journal → D → D → JournalFault → Type 0
IsHealRefusal device old new before after (DiskFault true) = IsHealFailed device old new before after
IsHealRefusal device old new before after _ = ⊥

-- the file begins with an open gate, and an octet stands behind it
abbrev pub BeginsOpen : List ℕ → Type 0
BeginsOpen content = (2 ≤ length content) × (get_or content 0 0 ≡ 1)

-- the file held no journal, and holds one of this one record, durably
pub record IsJournalCreated {D : Type 0} (device : Device D) (file : ℕ) (before after : D) (body : List ℕ)
    (journal : Journal) : Type 0 where
  pub none : IsTrue device.is_transparent → HoldsNone (device.reads before file)
  pub records : IsTrue device.is_transparent → HasOnDisk device journal (body ∷ []) [] after
  pub count : count_of journal ≡ 1
  pub in_file : file_of journal ≡ file
  pub no_pending_fault : unhealed_fault journal ≡ None
  pub no_failed_write : NoWriteFailed device before after

-- a crash now leaves no journal in the file, or what it could have left before
abbrev pub IsClosedAgain : {D : Type 0} → Device D → ℕ → D → D → Type 0
IsClosedAgain device file before after =
    IsTrue device.is_transparent → HoldsNone (device.reads before file) →
    (c : Image) → device.images after c → device.images before c ⊎ HoldsNone (c file)

-- the disk failed: at most the last write and the closing of the gate, and where only one call failed the gate is
-- closed
pub record IsJournalCreateFailed {D : Type 0} (device : Device D) (file : ℕ) (before after : D) : Type 0 where
  pub rose : raised (device.fault_count before) ≤ device.fault_count after
  pub wrote_most : device.failed_writes after ≤ raised (raised (device.failed_writes before))
  pub closed : device.fault_count after < raised (raised (device.fault_count before)) →
      IsClosedAgain device file before after

-- why a file wasn't made ready: it begins with an open gate, or the disk failed
abbrev pub IsPrepareRefusal : {D : Type 0} → Device D → D → D → JournalFault → Type 0
IsPrepareRefusal device before after Exists = NoWriteFailed device before after
IsPrepareRefusal device before after (DiskFault wrote) = IsDiskFault device before after wrote
IsPrepareRefusal device before after _ = ⊥

-- why no journal was made, and what is left: Exists where the file begins with an open gate
abbrev pub IsJournalCreateRefusal : {D : Type 0} → Device D → ℕ → D → D → JournalFault → Type 0
IsJournalCreateRefusal device file before after Exists =
    (IsTrue device.is_transparent → BeginsOpen (device.reads before file) × (device.reads after ≡ device.reads before))
    × NoWriteFailed device before after
IsJournalCreateRefusal device file before after (DiskFault wrote) =
    IsJournalCreateFailed device file before after × TellsWrites device before after wrote
IsJournalCreateRefusal device file before after OutOfMemory = after ≡ before
IsJournalCreateRefusal device file before after _ = ⊥

-- Where a file held no journal, power lost at any moment leaves it without one or with this one record, or what it
-- could have left before.
abbrev pub CrashLeavesFirst : {D : Type 0} → Device D → ℕ → D → D → List ℕ → Type 0
CrashLeavesFirst device file before after body =
    IsTrue device.is_transparent → HoldsNone (device.reads before file) →
    LeavesOnly device before after
    (λ c. device.images before c ⊎ (HoldsNone (c file) ⊎ HasRecords (c file) (body ∷ [])))

-- the journal has just the records of the file, which began with an open gate
pub record IsJournalOpened {D : Type 0} (device : Device D) (file : ℕ) (before after : D)
    (journal : Journal) : Type 0 where
  pub open_gate : IsTrue device.is_transparent → BeginsOpen (device.reads before file)
  pub has : IsTrue device.is_transparent → HasRecords (device.reads before file) (records_of device journal after)
  pub records : IsTrue device.is_transparent → HasOnDisk device journal (records_of device journal after) [] after
  pub in_file : file_of journal ≡ file
  pub no_pending_fault : unhealed_fault journal ≡ None
  pub no_failed_write : NoWriteFailed device before after

-- the disk failed, for who keeps no flag of it: a read, or the sync at the beginning
pub record IsJournalOpenFailed {D : Type 0} (device : Device D) (before after : D) : Type 0 where
  pub rose : raised (device.fault_count before) ≤ device.fault_count after
  pub wrote_most : NoWriteFailed device before after
      ⊎ (device.failed_writes after ≡ raised (device.failed_writes before))

-- why no journal was opened: none is there, an open record passes the file's end, a fault of the disk, or want of
-- memory
abbrev pub IsJournalOpenRefusal : {D : Type 0} → Device D → ℕ → D → D → JournalFault → Type 0
IsJournalOpenRefusal device file before after NoArchive =
    (IsTrue device.is_transparent → HoldsNone (device.reads before file)) × NoWriteFailed device before after
IsJournalOpenRefusal device file before after (Damaged at) =
    (IsTrue device.is_transparent → BeginsOpen (device.reads before file) × IsDamagedAt (device.reads before file) at)
    × NoWriteFailed device before after
IsJournalOpenRefusal device file before after (DiskFault wrote) = IsDiskFault device before after wrote
IsJournalOpenRefusal device file before after OutOfMemory = NoWriteFailed device before after
IsJournalOpenRefusal device file before after _ = ⊥

-- this refusal, or one that may come whatever the file holds
abbrev pub IsOrFails : JournalFault → JournalFault → Type 0
IsOrFails wanted fault = (fault ≡ wanted) ⊎ IsFailure fault

-- What the file holds decides the answer of an opening, but for a fault of the disk and want of memory.
pub record IsDecidedByFile (content : List ℕ) (result : Result Journal JournalFault) : Type 0 where
  pub none : HoldsNone content → IsErrAnd result (IsOrFails NoArchive)
  pub damaged : (at : ℕ) → BeginsOpen content → IsDamagedAt content at → IsErrAnd result (IsOrFails (Damaged at))
  pub records : (bodies : List (List ℕ)) → BeginsOpen content → HasRecords content bodies → IfErr result IsFailure

-- ---- a reading record by record

-- what the file that is being opened reads as
abbrev pub content_read : {D : Type 0} → Device D → Opening → D → List ℕ
content_read device opening disk = device.reads disk (file_read opening)

-- the bodies of the records that were read so far, which the opening's extents name
abbrev pub read_so_far : {D : Type 0} → Device D → Opening → D → List (List ℕ)
read_so_far device opening disk = map (body_of (content_read device opening disk)) opening.extents.items

-- an opening stands at the gate behind the records that it has read
abbrev pub StandsAtGate : {D : Type 0} → Device D → Opening → D → Type 0
StandsAtGate device opening disk =
    IsTrue device.is_transparent → IsAt opening (content_read device opening disk) (read_so_far device opening disk)

-- no record of the file was read yet, and its first gate is open
pub record IsOpeningAtStart {D : Type 0} (device : Device D) (file : ℕ) (before : D) (opening : Opening) : Type 0 where
  pub in_file : file_read opening ≡ file
  pub none_read : IsTrue device.is_transparent → IsAt opening (device.reads before file) []
  pub open_gate : IsTrue device.is_transparent → BeginsOpen (device.reads before file)

-- why no reading began without a sync: the file holds no journal, or a look at it failed
abbrev pub IsStartRefusal : {D : Type 0} → Device D → ℕ → D → D → JournalFault → Type 0
IsStartRefusal device file before after NoArchive = IsTrue device.is_transparent → HoldsNone (device.reads before file)
IsStartRefusal device file before after (DiskFault false) = raised (device.fault_count before) ≤ device.fault_count after
IsStartRefusal device file before after _ = ⊥

-- no record of the file was read yet, its first gate is open, and what it reads as is durable
pub record IsOpeningBegun {D : Type 0} (device : Device D) (file : ℕ) (before after : D)
    (opening : Opening) : Type 0 where
  pub in_file : file_read opening ≡ file
  pub none_read : IsTrue device.is_transparent → IsAt opening (device.reads before file) []
  pub open_gate : IsTrue device.is_transparent → BeginsOpen (device.reads before file)
  pub durable : IsDurable device file (device.reads after file) after
  pub no_failed_write : NoWriteFailed device before after

-- why no reading began: the file holds no journal, or the disk failed
abbrev pub IsBeginRefusal : {D : Type 0} → Device D → ℕ → D → D → JournalFault → Type 0
IsBeginRefusal device file before after NoArchive =
    (IsTrue device.is_transparent → HoldsNone (device.reads before file)) × NoWriteFailed device before after
IsBeginRefusal device file before after (DiskFault wrote) = IsDiskFault device before after wrote
IsBeginRefusal device file before after _ = ⊥

-- the body is that of the next record, and the opening stands at the gate behind it
pub record IsNextRecord {D : Type 0} (device : Device D) (old new : Opening) (disk : D) (body : List ℕ) : Type 0 where
  pub short : length body < 2 ^ 32
  pub moves : gate_of old < gate_of new
  pub read : IsTrue device.is_transparent →
      IsAt new (content_read device old disk) (read_so_far device old disk ++ body ∷ [])

-- the gate is closed: the file has just the records that were read
pub record IsLastGate {D : Type 0} (device : Device D) (old new : Opening) (disk : D) : Type 0 where
  pub has : IsTrue device.is_transparent → HasRecords (content_read device old disk) (read_so_far device old disk)
  pub stays : IsTrue device.is_transparent → IsAt new (content_read device old disk) (read_so_far device old disk)

-- the body of the next record, or that there is none
abbrev pub IsNextAnswer : {D : Type 0} → Device D → Opening → Opening → D → Option (List ℕ) → Type 0
IsNextAnswer device old new disk (Some body) = IsNextRecord device old new disk body
IsNextAnswer device old new disk None = IsLastGate device old new disk

-- why the next record was not read: it passes the file's end, a read failed, or memory is wanting
abbrev pub IsNextRefusal : {D : Type 0} → Device D → Opening → D → D → JournalFault → Type 0
IsNextRefusal device old before after (Damaged at) =
    IsTrue device.is_transparent →
    (at ≡ gate_of old) × IsCutShortAt (content_read device old before) (read_so_far device old before)
IsNextRefusal device old before after (DiskFault false) = raised (device.fault_count before) ≤ device.fault_count after
IsNextRefusal device old before after OutOfMemory = Unit {0}
IsNextRefusal device old before after _ = ⊥

-- the journal of all records of a file
pub record IsReadWhole {D : Type 0} (device : Device D) (opening : Opening) (disk : D)
    (journal : Journal) : Type 0 where
  pub in_file : file_of journal ≡ file_read opening
  pub no_pending_fault : unhealed_fault journal ≡ None
  pub records : IsTrue device.is_transparent → IsReadFrom (content_read device opening disk) journal

-- why a file was not read to its end: an open record passes it, a read failed, or memory is wanting
abbrev pub IsReadWholeRefusal : {D : Type 0} → Device D → Opening → D → D → JournalFault → Type 0
IsReadWholeRefusal device opening before after (Damaged at) =
    IsTrue device.is_transparent → IsDamagedAt (content_read device opening before) at
IsReadWholeRefusal device opening before after (DiskFault false) =
    raised (device.fault_count before) ≤ device.fault_count after
IsReadWholeRefusal device opening before after OutOfMemory = Unit {0}
IsReadWholeRefusal device opening before after _ = ⊥

-- why a record was not read again: a read failed, or memory is wanting
abbrev pub IsRecordRefusal : {D : Type 0} → Device D → D → D → JournalFault → Type 0
IsRecordRefusal device before after (DiskFault false) = raised (device.fault_count before) ≤ device.fault_count after
IsRecordRefusal device before after OutOfMemory = Unit {0}
IsRecordRefusal device before after _ = ⊥
