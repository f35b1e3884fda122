-- What the files of an image stand for, whatever archives and entries are: the entries of one journal, the log, over
-- what the other files say.
use Rattle.std.specs.Prelude.{◌≡◌, ◌⊎◌, ℕ, ◌<◌, IsTrue, List, [], ◌∷◌, ◌++◌, map, Option, Some, None}
use Rattle.arch_disk.specs.Image.{Image}
use Rattle.arch_disk.specs.Disk.{Device, IsOldBut, LeavesOnly}
use Rattle.disk_journal.specs.Format.{HasRecords}
use Rattle.disk_journal.specs.State.{HasOnDisk as JournalHasOnDisk}
use Rattle.disk_journal.specs.State.{file_of, unhealed_fault}
use Rattle.disk_journal.specs.declared.journal.Journal.{Journal}

-- HasBase image log beginning base: the files beside the log say that it is this file, that its records begin with
-- these, and which archive its entries go on from
abbrev pub BaseRelation : Type 0 → Type 1
BaseRelation A = Image → ℕ → List (List ℕ) → Option A → Type 0

-- that is said by the files of lower numbers than the log's alone
abbrev pub IsSaidByLowerFiles : {A : Type 0} → BaseRelation A → Type 0
IsSaidByLowerFiles {A} HasBase =
    (c d : Image) (log : ℕ) (beginning : List (List ℕ)) (base : Option A) →
    ((file : ℕ) → file < log → d file ≡ c file) → HasBase c log beginning base → HasBase d log beginning base

module _ {A E : Type 0} (Applies : Option A → E → A → Type 0) where
  -- these entries, one after the other
  abbrev pub ReplaysBy : Option A → List E → Option A → Type 0
  ReplaysBy old [] new = new ≡ old
  ReplaysBy old (entry ∷ entries) new = (mid : A) × Applies old entry mid × ReplaysBy (Some mid) entries new

-- `spell` gives the octets of an entry, `Applies` says which archive one makes of another
module _ {A E : Type 0} (spell : E → List ℕ) (Applies : Option A → E → A → Type 0)
    (HasBase : Image → ℕ → List (List ℕ) → Option A → Type 0) where
  -- the other files name a log and its base, and the log's entries make the archive of that
  pub record StandsOver (image : Image) (archive : A) : Type 0 where
    pub log : ℕ
    pub beginning : List (List ℕ)
    pub base : Option A
    pub entries : List E
    pub has_base : HasBase image log beginning base
    pub has : HasRecords (image log) (beginning ++ map spell entries)
    pub replays : ReplaysBy Applies base entries (Some archive)

  -- the image stands for some archive that Found holds of
  pub record StandsForSome (Found : A → Type 0) (image : Image) : Type 0 where
    pub found : A
    pub stands : StandsOver image found
    pub holds : Found found

  -- an image stands for the archive, or for one that an unacknowledged write may have made
  abbrev pub StandsNow : A → (A → Type 0) → Image → Type 0
  StandsNow archive Unacknowledged image = StandsOver image archive ⊎ StandsForSome Unacknowledged image

  -- The log's records are entries that make the archive over the base that each image has; and where an append was left
  -- half done, each image in which its record is there stands for the archive or for an unacknowledged one.
  pub record LogInvariant {D : Type 0} (device : Device D) (disk : D) (journal : Journal) (archive : A)
      (Unacknowledged : A → Type 0) : Type 0 where
    pub beginning : List (List ℕ)
    pub base : Option A
    pub entries : List E
    pub pending : List ℕ
    pub has_base : (c : Image) → device.images disk c → HasBase c (file_of journal) beginning base
    pub replays : ReplaysBy Applies base entries (Some archive)
    pub keeps : JournalHasOnDisk device journal (beginning ++ map spell entries) pending disk
    pub unacknowledged : (faults : ℕ) → unhealed_fault journal ≡ Some faults →
        (c : Image) → IsOldBut device (file_of journal) disk c →
        HasRecords (c (file_of journal)) ((beginning ++ map spell entries) ++ pending ∷ []) →
        StandsNow archive Unacknowledged c

  -- What a crash now may leave, and what a crash at any moment since the opening may have left, which stands for
  -- archives that Found holds of.
  pub record ImageInvariant {D : Type 0} (device : Device D) (disk opened : D) (archive : A)
      (Unacknowledged Found : A → Type 0) : Type 0 where
    pub now : (c : Image) → device.images disk c → StandsNow archive Unacknowledged c
    pub since : LeavesOnly device opened disk (StandsForSome Found)

  -- what a store with one journal keeps
  pub record ArchiveInvariant {D : Type 0} (device : Device D) (disk opened : D) (journal : Journal) (archive : A)
      (Unacknowledged Found : A → Type 0) : Type 0 where
    pub images : IsTrue device.is_transparent → ImageInvariant device disk opened archive Unacknowledged Found
    pub log : IsTrue device.is_transparent → LogInvariant device disk journal archive Unacknowledged

-- without seals file 0 is the log, and its entries begin the archive
abbrev pub IsPlainLog : {A : Type 0} → Image → ℕ → List (List ℕ) → Option A → Type 0
IsPlainLog image log beginning base = (log ≡ 0) × (beginning ≡ []) × (base ≡ None)
