-- What power lost at any moment leaves, while new files are written and while a seal is appended to file 0.
use Rattle.std.specs.Prelude.{◌≡◌, ℕ, ◌<◌, List, [], ◌∷◌, ◌++◌, map, true, Option, Some, None}
use Rattle.std.specs.List.{AllByRecursion}
use Rattle.arch_disk.specs.Image.{Image}
use Rattle.arch_disk.specs.Disk.{Device, IsOldBut, LeavesOnly}
use Rattle.disk_journal.specs.Format.{HasRecords, IsBeforeOrAfter}
use Rattle.disk_journal.specs.State.{file_of, unhealed_fault}
use Rattle.disk_journal.specs.declared.journal.Journal.{Journal}
use Rattle.field_codec.specs.declared.entry.Entry.{Entry}
use Rattle.field_codec.specs.Spelling.{entry_octets}
use Rattle.seal_codec.specs.declared.seal.Seal.{Seal}
use Rattle.seal_codec.specs.Files.{are_rising}
use Rattle.seal_codec.specs.Seals.{IsSeal}
use Rattle.archive_images.specs.Entries.{Applies, FilledArchive, Replays}
use Rattle.archive_images.specs.Images.{LogInvariant}
use Rattle.archive_images.specs.Unacknowledged.{IsUnacknowledged}
use Rattle.history_items.specs.declared.fills.Addition.{Addition}
use Rattle.archive_images.specs.SealFiles.{AreGrown, HasFills, HaveParts, HaveRuns, Part, files_of_seals, log_head_record, seal_record}
use Rattle.archive_images.specs.Below.{IsBelow, PartsMake, StandsSealed}

-- work in a file of a higher number than the log's, so in one that nothing names, leaves the archive at each moment
abbrev pub WorkAboveLeaves : {D : Type 0} → Device D → Type 0
WorkAboveLeaves {D} device =
    (disk new : D) (log : Journal) (file : ℕ) (filled : FilledArchive) (pending : Option Addition) →
    LogInvariant entry_octets Applies IsBelow device disk log filled (IsUnacknowledged filled pending) → unhealed_fault log ≡ None →
    file_of log < file → LeavesOnly device disk new (IsOldBut device file disk) →
    LeavesOnly device disk new (λ c. StandsSealed c filled)

-- the new files of a seal stand in an image, beside those of the seals before: its runs, its fill file, and a log without an entry
pub record HasNewFiles (image : Image) (all : List Seal) (parts : List Part) (seal : Seal) (part : Part) : Type 0 where
  pub have : HaveParts image all parts
  pub runs : HaveRuns image seal.runs part.runs
  pub fills : HasFills image seal part.fills
  pub log : HasRecords (image seal.log) (log_head_record seal.rows ∷ [])

-- seals may stand in file 0 one behind the other
pub record MayFollow (all : List Seal) : Type 0 where
  pub fit : AllByRecursion IsSeal all
  pub rising : are_rising 0 (files_of_seals all) ≡ true
  pub grown : AreGrown 0 all

-- The append of a seal to file 0 leaves the archive at each moment, where its new files stand in every image, what they hold
-- makes the archive, and without the seal each image stands for it too.
abbrev pub SealLeaves : {D : Type 0} → Device D → Type 0
SealLeaves {D} device =
    (disk new : D) (before : List Entry) (old : FilledArchive) (all : List Seal) (parts : List Part)
    (seal : Seal) (part : Part) (filled : FilledArchive) →
    let records = map entry_octets before ++ map seal_record all in
    Replays None before (Some old) → MayFollow (all ++ seal ∷ []) →
    ((c : Image) → device.images disk c → HasNewFiles c all parts seal part) →
    PartsMake old.plain (all ++ seal ∷ []) seal.rows (parts ++ part ∷ []) filled →
    ((c : Image) → IsOldBut device 0 disk c → HasRecords (c 0) records → StandsSealed c filled) →
    LeavesOnly device disk new (λ c. IsBeforeOrAfter records (seal_record seal) (c 0)) →
    LeavesOnly device disk new (IsOldBut device 0 disk) → LeavesOnly device disk new (λ c. StandsSealed c filled)
