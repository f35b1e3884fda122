-- How a journal in memory and its file belong together.
use Rattle.std.specs.Prelude.{◌≡◌, ℕ, ◌+◌, ◌<◌, false, List, [], ◌∷◌, length, Option, Some, None, vec_len, vec_capacity}
use Rattle.arch_disk.specs.Image.{Image}
use Rattle.arch_disk.specs.Disk.{Device, IsDurable}
use Rattle.disk_journal.specs.Format.{written, HasRecords, HasStaged}
use Rattle.disk_journal.specs.declared.journal.Journal.{Journal}
use Rattle.disk_journal.specs.declared.fault.JournalFault.{JournalFault}
use Rattle.disk_journal.specs.declared.fault.JournalFault.TheVariants.{Damaged, DiskFault, OutOfMemory}
use Rattle.disk_journal.specs.declared.journal.Extent.{Extent}
use Rattle.disk_journal.specs.declared.journal.PendingFault.{PendingFault}
use Rattle.disk_journal.specs.declared.journal.PendingFault.TheVariants.{Absent, GateClosed, GateWritten}

-- the places of the bodies in a file whose records begin at this octet
abbrev pub extents_from : ℕ → List (List ℕ) → List Extent
extents_from at [] = []
extents_from at (body ∷ bodies) = record { at = at + 5; len = length body } ∷ extents_from (at + 5 + length body) bodies

-- What is known of the file by the failures of writes and syncs since the last heal;
-- `pending` is the body of the record whose gate may have been written.
abbrev pub StateIs : {D : Type 0} → Device D → PendingFault → ℕ → List (List ℕ) → List ℕ → D → Type 0
StateIs device Absent file bodies pending disk =
    HasRecords (device.reads disk file) bodies × IsDurable device file (device.reads disk file) disk
StateIs device (GateClosed faults) file bodies pending disk =
    (c : Image) → device.images disk c → HasRecords (c file) bodies
StateIs device (GateWritten faults) file bodies pending disk =
    (c : Image) → device.images disk c → HasStaged (c file) bodies pending

-- the journal has just these records on this disk
pub record HasOnDisk {D : Type 0} (device : Device D) (journal : Journal) (bodies : List (List ℕ)) (pending : List ℕ)
    (disk : D) : Type 0 where
  pub extents : journal.extents.items ≡ extents_from 0 bodies
  pub end : journal.end ≡ length (written bodies)
  pub state : StateIs device journal.pending_fault journal.file bodies pending disk

-- the disk's file holds the journal's records, whatever these are
pub record IsOnDisk {D : Type 0} (device : Device D) (journal : Journal) (disk : D) : Type 0 where
  pub bodies : List (List ℕ)
  pub pending : List ℕ
  pub keeps : HasOnDisk device journal bodies pending disk

-- all but the room is the same
pub record IsSame (old new : Journal) : Type 0 where
  pub file : new.file ≡ old.file
  pub extents : new.extents.items ≡ old.extents.items
  pub end : new.end ≡ old.end
  pub pending_fault : new.pending_fault ≡ old.pending_fault

-- the file of a journal
abbrev pub file_of : Journal → ℕ
file_of journal = journal.file

-- the number of a journal's records
abbrev pub count_of : Journal → ℕ
count_of journal = length journal.extents.items

-- there is room for one record more
abbrev pub HasRoom : Journal → Type 0
HasRoom journal = vec_len journal.extents < vec_capacity journal.extents

-- the disk's count of failed writes at the fault that wants a heal
abbrev pub faults_of : PendingFault → Option ℕ
faults_of Absent = None
faults_of (GateClosed faults) = Some faults
faults_of (GateWritten faults) = Some faults

-- the disk's count of faults at the failure that is not healed
abbrev pub unhealed_fault : Journal → Option ℕ
unhealed_fault journal = faults_of journal.pending_fault

-- what reading a file of this content gives
pub record IsReadFrom (content : List ℕ) (journal : Journal) : Type 0 where
  pub bodies : List (List ℕ)
  pub has : HasRecords content bodies
  pub extents : journal.extents.items ≡ extents_from 0 bodies
  pub end : journal.end ≡ length (written bodies)

-- the errors of reading records
abbrev pub IsReadFault : JournalFault → Type 0
IsReadFault (Damaged at) = Unit {0}
IsReadFault (DiskFault false) = Unit {0}
IsReadFault OutOfMemory = Unit {0}
IsReadFault _ = ⊥
