-- What a reading of records answers.
use Rattle.std.specs.Prelude.{◌≡◌, ℕ, List, ◌++◌, length, None, IsTrue}
use Rattle.arch_disk.specs.Disk.{Device}
use Rattle.disk_journal.specs.Calls.{content_read, read_so_far}
use Rattle.disk_journal.specs.Format.{HasRecords, written}
use Rattle.disk_journal.specs.Reading.{file_read}
use Rattle.disk_journal.specs.State.{extents_from, file_of, unhealed_fault}
use Rattle.disk_journal.specs.declared.journal.Journal.{Journal}
use Rattle.disk_journal.specs.declared.opening.Opening.{Opening}
use Rattle.sealed_images.specs.Records.{ReadsTo, StopsAt}

-- the journal has the places of all records of the file: those that were read before, and these, each of which may follow
pub record AreRecordsRead {S D : Type 0} (Follows : S → List ℕ → S → Type 0) (device : Device D) (disk : D)
    (opening : Opening) (was now : S) (journal : Journal) : Type 0 where
  pub bodies : List (List ℕ)
  pub reads : ReadsTo Follows was bodies now
  pub has : IsTrue device.is_transparent →
      HasRecords (content_read device opening disk) (read_so_far device opening disk ++ bodies)
  pub extents : IsTrue device.is_transparent →
      journal.extents.items ≡ extents_from 0 (read_so_far device opening disk ++ bodies)
  pub end : IsTrue device.is_transparent → journal.end ≡ length (written (read_so_far device opening disk ++ bodies))
  pub in_file : file_of journal ≡ file_read opening
  pub no_pending_fault : unhealed_fault journal ≡ None

-- the octet is the gate of the first record of the file that passes its end or may not follow
abbrev pub IsStop : {S D : Type 0} → (S → List ℕ → Type 0) → (S → List ℕ → S → Type 0) → Device D → D → Opening → S → ℕ → ℕ → Type 0
IsStop May Follows device disk opening was file at =
    (file ≡ file_read opening)
    × StopsAt May Follows (content_read device opening disk) (read_so_far device opening disk) was at
