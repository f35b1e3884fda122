-- The head with which a fill file and a log begin.
use Rattle.std.specs.Prelude.{◌≡◌, ℕ, [], ◌∷◌, IsTrue}
use Rattle.arch_disk.specs.Disk.{Device}
use Rattle.arch_disk.specs.Image.{Image}
use Rattle.disk_journal.specs.Calls.{BeginsOpen, StandsAtGate, content_read, read_so_far}
use Rattle.disk_journal.specs.Reading.{file_read}
use Rattle.disk_journal.specs.declared.opening.Opening.{Opening}
use Rattle.disk_journal.specs.declared.fault.JournalFault.{JournalFault}
use Rattle.disk_journal.specs.declared.fault.JournalFault.TheVariants as faults
use Rattle.refusals.specs.declared.refusal.Refusal.{Refusal}
use Rattle.refusals.specs.declared.refusal.Refusal.TheVariants as refused
use Rattle.archive_images.specs.SealFiles.{log_head_record}
use Rattle.archive_reading.specs.PartialArchive.{read_refusal}
use Rattle.sealed_images.specs.Records.{BeginsWithHead}

-- the file begins with the head of a log over so many rows, and that is the one record that was read
pub record IsBehindHead {D : Type 0} (device : Device D) (before after : D) (file rows : ℕ) (opening : Opening) : Type 0 where
  pub in_file : file_read opening ≡ file
  pub at_gate : StandsAtGate device opening after
  pub begun : IsTrue device.is_transparent → BeginsOpen (content_read device opening after)
  pub read : IsTrue device.is_transparent → read_so_far device opening after ≡ log_head_record rows ∷ []
  pub head : IsTrue device.is_transparent → BeginsWithHead (device.reads before file) rows

-- a file has no such head: it is damaged at octet 0
abbrev pub HasNoHead : Image → ℕ → ℕ → ℕ → ℕ → Type 0
HasNoHead image journal rows file at = (file ≡ journal) × (BeginsWithHead (image journal) rows → ⊥) × (at ≡ 0)

-- the refusal for a journal that isn't begun: one that isn't there has no head
abbrev pub start_refusal : ℕ → JournalFault → Refusal
start_refusal file faults.NoArchive = refused.Damaged file 0
start_refusal file fault = read_refusal file fault
