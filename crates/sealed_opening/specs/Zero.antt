-- The records of file 0, one after the other.
use Rattle.std.specs.Prelude.{◌≡◌, ◌⊎◌, ℕ, List, [], ◌∷◌, ◌++◌, Some}
use Rattle.field_codec.specs.declared.entry.Entry.{Entry}
use Rattle.field_codec.specs.Spelling.{entry_octets}
use Rattle.seal_codec.specs.declared.seal.Seal.{Seal}
use Rattle.archive_images.specs.Entries.{Applies, FilledArchive, dones_of}
use Rattle.archive_images.specs.Moments.{MayFollow}
use Rattle.archive_images.specs.SealFiles.{seal_record}
use Rattle.archive_reading.specs.PartialArchive.{IsBase, archive_made, fills_made}
use Rattle.sealed_images.specs.Damage.{ZeroSoFar}
use Rattle.sealed_opening.specs.declared.zero.ZeroRecords.{ZeroRecords}

-- the log of the last of seals, and how many rows it seals; 0 for each where there is none
abbrev pub IsLastOf : List Seal → ℕ → ℕ → Type 0
IsLastOf seals log rows =
    ((seals ≡ []) × (log ≡ 0) × (rows ≡ 0))
    ⊎ ((earlier : List Seal) × (last : Seal) × (seals ≡ earlier ++ last ∷ []) × (log ≡ last.log) × (rows ≡ last.rows))

-- what the records so far make
abbrev pub zero_said : ZeroRecords → ZeroSoFar
zero_said records = record { archive = archive_made records.made; seals = records.seals.items }

-- an entry was taken, as long as no seal stands there: what it makes, and what it tells of fills
pub record IsEntryTaken (was : ZeroRecords) (body : List ℕ) (now : ZeroRecords) : Type 0 where
  pub entry : Entry
  pub after : FilledArchive
  pub body_is : body ≡ entry_octets entry
  pub no_seal : was.seals.items ≡ []
  pub still_none : now.seals.items ≡ []
  pub applies : Applies (archive_made was.made) entry after
  pub archive_is : archive_made now.made ≡ Some after
  pub fills : fills_made now.made ≡ fills_made was.made ++ dones_of (entry ∷ [])

-- a seal was taken, behind an archive
pub record IsSealTaken (was : ZeroRecords) (body : List ℕ) (now : ZeroRecords) : Type 0 where
  pub seal : Seal
  pub filled : FilledArchive
  pub archive_is : archive_made was.made ≡ Some filled
  pub body_is : body ≡ seal_record seal
  pub follows : MayFollow (was.seals.items ++ seal ∷ [])
  pub seals_are : now.seals.items ≡ was.seals.items ++ seal ∷ []
  pub same : now.made ≡ was.made

-- a record was taken
abbrev pub IsTakenInZero : ZeroRecords → List ℕ → ZeroRecords → Type 0
IsTakenInZero was body now = IsEntryTaken was body now ⊎ IsSealTaken was body now

-- entries may go on from the archive that they make, and the seals may stand so
pub record IsZeroKept (records : ZeroRecords) : Type 0 where
  pub base : IsBase records.made
  pub follow : MayFollow records.seals.items
