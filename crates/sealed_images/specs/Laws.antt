-- What holds of the damage of images, and of what a seal makes.
use Rattle.std.specs.Prelude.{◌≡◌, ◌↔◌, ◌+◌, ℕ, List, [], ◌∷◌, ◌++◌, length, Some}
use Rattle.std.specs.List.Sorted.{IsPermutation}
use Rattle.arch_disk.specs.Image.{Image}
use Rattle.arch_types.specs.declared.row.Row.{Row}
use Rattle.disk_journal.specs.Format.{HoldsNone}
use Rattle.store_fills.specs.Sound.{no_fillings}
use Rattle.field_codec.specs.declared.entry.Entry.{Entry}
use Rattle.run_pages.specs.Placed.{rows_of_placed}
use Rattle.seal_codec.specs.declared.seal.Seal.{Seal}
use Rattle.archive_images.specs.Entries.{Archive, FilledArchive, Replays, filled_archive}
use Rattle.archive_images.specs.SealFiles.{HaveParts, Part}
use Rattle.archive_images.specs.Below.{PartsMake, StandsSealed, rows_of_part, rows_of_parts}
use Rattle.sealed_images.specs.Damage.{AreSealsIn, FollowsInLog, IsImageDamagedAt, IsImageRead, Manifest}
use Rattle.sealed_images.specs.Records.{ReadsTo}
use Rattle.sealed_images.specs.Verdict.{MaySealAsRead}
use Rattle.sealed_images.specs.Sealing.{AreOfEntries, fills_of_entries, from_position, rows_of_entries}

-- an image is damaged at one octet of one file at most
abbrev pub SealedDamageIsOne : Type 0
SealedDamageIsOne = (image : Image) (file other at where_else : ℕ) →
    IsImageDamagedAt image file at → IsImageDamagedAt image other where_else → (file ≡ other) × (at ≡ where_else)

-- an image that stands for an archive, sealed or not, is damaged nowhere
abbrev pub SealedArchivesAreWhole : Type 0
SealedArchivesAreWhole = (image : Image) (filled : FilledArchive) (file at : ℕ) →
    StandsSealed image filled → IsImageDamagedAt image file at → ⊥

-- Where the parts of seals make an archive, the records behind a log's head are read as rows exactly where they are
-- those of entries that have these rows and go on from that archive.
abbrev pub LogReads : Type 0
LogReads = (old : Archive) (all : List Seal) (sealed : ℕ) (parts : List Part) (made : FilledArchive)
    (bodies : List (List ℕ)) (rows : List Row) → PartsMake old all sealed parts made →
    ReadsTo (FollowsInLog old sealed (rows_of_placed (rows_of_parts parts))) [] bodies rows
    ↔ AreOfEntries made bodies rows

-- Where the files of seals were read, the rows of all runs may be sealed as they were read exactly where the parts are what
-- the seals name and make an archive.
abbrev pub RowsAreJudgedAsRead : Type 0
RowsAreJudgedAsRead = (image : Image) (old : Archive) (all : List Seal) (sealed : ℕ) (parts : List Part) →
    AreSealsIn image old [] all parts → MaySealAsRead old all sealed parts
    ↔ (HaveParts image all parts × (made : FilledArchive) × PartsMake old all sealed parts made)

-- an image that is read whole stands for what the entries of its log make of the archive of the parts
abbrev pub ReadImagesStand : Type 0
ReadImagesStand = (image : Image) (manifest : Manifest) (parts : List Part) (made : FilledArchive) (rows : List Row)
    (read : IsImageRead image manifest parts made rows) →
    (found : AreOfEntries made read.log.bodies rows) × StandsSealed image found.filled

-- one that holds none stands for none and is damaged nowhere
abbrev pub NoneIsNowhereDamaged : Type 0
NoneIsNowhereDamaged = (image : Image) → HoldsNone (image 0) →
    ((filled : FilledArchive) → StandsSealed image filled → ⊥) × ((file at : ℕ) → IsImageDamagedAt image file at → ⊥)

-- Where entries go on from the archive of parts to another, their rows as runs and their fills, as one part more, make
-- that other one.
abbrev pub SealingMakes : Type 0
SealingMakes = (old made filled : FilledArchive) (all : List Seal) (parts : List Part) (es : List Entry) (sealed : ℕ)
    (seal : Seal) (part : Part) →
    PartsMake old.plain all sealed parts made → Replays (Some made) es (Some filled) →
    IsPermutation (rows_of_part part) (from_position sealed (rows_of_entries es)) → part.fills ≡ fills_of_entries es →
    seal.rows ≡ sealed + length (rows_of_entries es) →
    PartsMake old.plain (all ++ seal ∷ []) seal.rows (parts ++ part ∷ []) filled

-- an archive without rows is made of no parts
abbrev pub NoPartsMake : Type 0
NoPartsMake = (old : Archive) → PartsMake old [] 0 [] (filled_archive old.head old.exponent [] no_fillings)
