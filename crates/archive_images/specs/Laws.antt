-- What holds of the images of a disk, and of the rows of an archive.
use Rattle.std.specs.Prelude.{◌≡◌, ◌↔◌, ℕ, List, [], Option, None}
use Rattle.arch_disk.specs.Image.{Image}
use Rattle.arch_types.specs.declared.row.Row.{Row}
use Rattle.text_forms.specs.ClockTime.{IsClockTime}
use Rattle.history_items.specs.declared.items.Item.{Item}
use Rattle.disk_journal.specs.Format.{HoldsNone}
use Rattle.intervals.specs.Interval.{format_1_exponent}
use Rattle.archive_images.specs.declared.head.Head.{Head}
use Rattle.archive_images.specs.Entries.{Archive, FilledArchive, IsArchivedRow}
use Rattle.archive_images.specs.Stands.{StandsFilled, StandsFor, StandsInFile, IsArchiveDamagedAt, IsFileDamagedAt}
use Rattle.archive_images.specs.Images.{IsSaidByLowerFiles}
use Rattle.archive_images.specs.Below.{IsBelow, StandsSealed}
use Rattle.archive_images.specs.SealFiles.{Names}

-- an image stands for one archive at most
abbrev pub ArchivesAreOne : Type 0
ArchivesAreOne = (image : Image) (a b : Archive) → StandsFor image a → StandsFor image b → a ≡ b

-- the exponent of its intervals is that of format 1
abbrev pub ExponentsAreOfFormat1 : Type 0
ExponentsAreOfFormat1 =
    (image : Image) (archive : Archive) → StandsFor image archive → archive.exponent ≡ format_1_exponent

-- with one fill at most of each interval
abbrev pub FillsAreOne : Type 0
FillsAreOne = (image : Image) (a b : FilledArchive) → StandsFilled image a → StandsFilled image b → a ≡ b

-- it is damaged at one gate at most
abbrev pub DamageIsOne : Type 0
DamageIsOne = (image : Image) (at other : ℕ) → IsArchiveDamagedAt image at → IsArchiveDamagedAt image other → at ≡ other

-- an image that stands for an archive is not damaged
abbrev pub ArchivesAreWhole : Type 0
ArchivesAreWhole =
    (image : Image) (archive : Archive) (at : ℕ) → StandsFor image archive → IsArchiveDamagedAt image at → ⊥

-- ---- the records of a file, by those that it begins with and by what its entries go on from

-- they make one archive at most
abbrev pub FilesAreOne : Type 0
FilesAreOne = (image : Image) (file : ℕ) (beginning : List (List ℕ)) (base : Option FilledArchive)
    (a b : FilledArchive) → StandsInFile image file beginning base a → StandsInFile image file beginning base b → a ≡ b

-- they are damaged at one gate at most
abbrev pub FileDamageIsOne : Type 0
FileDamageIsOne = (image : Image) (file : ℕ) (beginning : List (List ℕ)) (base : Option FilledArchive) (at other : ℕ) →
    IsFileDamagedAt image file beginning base at → IsFileDamagedAt image file beginning base other → at ≡ other

-- where they make an archive they are not damaged
abbrev pub FilesAreWhole : Type 0
FilesAreWhole = (image : Image) (file : ℕ) (beginning : List (List ℕ)) (base : Option FilledArchive)
    (filled : FilledArchive) (at : ℕ) → StandsInFile image file beginning base filled →
    IsFileDamagedAt image file beginning base at → ⊥

-- an image stands for the archive that file 0 makes, whose entries stand at its beginning and go on from nothing
abbrev pub FileZeroIsAll : Type 0
FileZeroIsAll =
    (image : Image) (filled : FilledArchive) → StandsFilled image filled ↔ StandsInFile image 0 [] None filled

-- ---- images without an archive

-- one that holds none stands for none and is not damaged
abbrev pub NoneIsNone : Type 0
NoneIsNone =
    (image : Image) → HoldsNone (image 0) → ((archive : Archive) → StandsFor image archive → ⊥)
    × ((at : ℕ) → IsArchiveDamagedAt image at → ⊥)

-- the time of a row that a store gives is a moment of the clock
abbrev pub ArchivedRowsHaveClockTimes : Type 0
ArchivedRowsHaveClockTimes =
    (head : Head) (history : List Item) (row : Row) → IsArchivedRow head history row → IsClockTime row.key.time

-- ---- images whose histories may be sealed

-- an image stands for one archive at most, with one fill at most of each interval
abbrev pub SealedArchivesAreOne : Type 0
SealedArchivesAreOne = (image : Image) (a b : FilledArchive) → StandsSealed image a → StandsSealed image b → a ≡ b

-- an archive that was never sealed stands as before
abbrev pub PlainArchivesStand : Type 0
PlainArchivesStand = (image : Image) (filled : FilledArchive) → StandsFilled image filled → StandsSealed image filled

-- what stands below a log is said by the files of lower numbers alone
abbrev pub LowerFilesSay : Type 0
LowerFilesSay = IsSaidByLowerFiles {A = FilledArchive} IsBelow

-- two images agree on file 0 and on each file that it names
pub record AgreeOnNamed (c d : Image) : Type 0 where
  pub zero : d 0 ≡ c 0
  pub named : (file : ℕ) → Names c file → d file ≡ c file

-- then they stand for the same archive
abbrev pub NamedFilesDecide : Type 0
NamedFilesDecide = (c d : Image) (filled : FilledArchive) → AgreeOnNamed c d → StandsSealed c filled → StandsSealed d filled
