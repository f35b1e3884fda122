-- What a store keeps of two journals.
use Rattle.std.specs.Prelude.{◌≡◌, ◌⊎◌, ℕ, ◌<◌, IsTrue, List, [], ◌∷◌, ◌++◌, map, Option, Some, None}
use Rattle.arch_disk.specs.Image.{Image}
use Rattle.arch_disk.specs.Disk.{Device, IsOldBut}
use Rattle.disk_journal.specs.Format.{HasRecords}
use Rattle.disk_journal.specs.State.{HasOnDisk, file_of, unhealed_fault}
use Rattle.disk_journal.specs.declared.journal.Journal.{Journal}
use Rattle.field_codec.specs.declared.entry.Entry.{Entry}
use Rattle.field_codec.specs.Spelling.{entry_octets}
use Rattle.run_pages.specs.Placed.{Placed}
use Rattle.seal_codec.specs.declared.seal.Seal.{Seal}
use Rattle.archive_images.specs.declared.head.Head.{Head}
use Rattle.archive_images.specs.Entries.{FilledArchive, Replays}
use Rattle.archive_images.specs.Images.{ImageInvariant, LogInvariant, ReplaysBy, StandsNow}
use Rattle.archive_images.specs.SealFiles.{HaveParts, Part, seal_record}
use Rattle.archive_images.specs.Below.{PartsMake, rows_of_parts}
use Rattle.archive_images.specs.Moments.{MayFollow}

-- file 0 is whole: there is no manifest yet, or its last append is healed
abbrev pub IsHealed : Option Journal → Type 0
IsHealed None = Unit {0}
IsHealed (Some seals) = unhealed_fault seals ≡ None

module _ {A E : Type 0} (spell : E → List ℕ) (Applies : Option A → E → A → Type 0)
    (HasBase : Image → ℕ → List (List ℕ) → Option A → Type 0) where
  -- with the seal each image stands for the archive, without it the log goes on as before
  pub record SealingInvariant {D : Type 0} (device : Device D) (disk : D) (manifest log : Journal) (archive : A)
      (Unacknowledged : A → Type 0) : Type 0 where
    pub bodies : List (List ℕ)
    pub pending : List ℕ
    pub zero : file_of manifest ≡ 0
    pub above : 0 < file_of log
    pub keeps : HasOnDisk device manifest bodies pending disk
    pub beginning : List (List ℕ)
    pub base : Option A
    pub entries : List E
    pub log_pending : List ℕ
    pub replays : ReplaysBy Applies base entries (Some archive)
    pub log_keeps : HasOnDisk device log (beginning ++ map spell entries) log_pending disk
    pub healed : unhealed_fault log ≡ None
    pub without : (c : Image) → IsOldBut device 0 disk c → HasRecords (c 0) bodies → HasBase c (file_of log) beginning base
    pub with_seal : (c : Image) → IsOldBut device 0 disk c → HasRecords (c 0) (bodies ++ pending ∷ []) →
        StandsNow spell Applies HasBase archive Unacknowledged c

  -- what a store with two journals keeps
  pub record JournalsInvariant {D : Type 0} (device : Device D) (disk opened : D) (manifest : Option Journal) (log : Journal) (archive : A)
      (Unacknowledged Found : A → Type 0) : Type 0 where
    pub images : IsTrue device.is_transparent → ImageInvariant spell Applies HasBase device disk opened archive Unacknowledged Found
    pub log_keeps : IsTrue device.is_transparent → IsHealed manifest → LogInvariant spell Applies HasBase device disk log archive Unacknowledged
    pub sealing : IsTrue device.is_transparent → (seals : Journal) (faults : ℕ) → manifest ≡ Some seals →
        unhealed_fault seals ≡ Some faults → SealingInvariant device disk seals log archive Unacknowledged
    pub not_both : (seals : Journal) → manifest ≡ Some seals → (unhealed_fault seals ≡ None) ⊎ (unhealed_fault log ≡ None)

-- what file 0 has, where it is the manifest: for the next seal
pub record ManifestInvariant {D : Type 0} (device : Device D) (disk : D) (seals log : Journal) (head : Head) (placed : List Placed)
    : Type 0 where
  pub before : List Entry
  pub old : FilledArchive
  pub earlier : List Seal
  pub last : Seal
  pub parts : List Part
  pub pending : List ℕ
  pub keeps : HasOnDisk device seals (map entry_octets before ++ map seal_record (earlier ++ last ∷ [])) pending disk
  pub replays : Replays None before (Some old)
  pub head_is : old.plain.head ≡ head
  pub follow : MayFollow (earlier ++ last ∷ [])
  pub log_is : file_of log ≡ last.log
  pub have : (c : Image) → device.images disk c → HaveParts c (earlier ++ last ∷ []) parts
  pub made : FilledArchive
  pub make : PartsMake old.plain (earlier ++ last ∷ []) last.rows parts made
  pub placed_is : placed ≡ rows_of_parts parts
