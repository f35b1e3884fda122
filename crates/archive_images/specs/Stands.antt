-- What an image of the disk stands for.
use Rattle.std.specs.Prelude.{◌≡◌, ◌⊎◌, ℕ, ◌+◌, ◌<◌, ◌≤◌, ◌^◌, List, [], ◌∷◌, ◌++◌, length, map, take, Option, Some, None}
use Rattle.std.specs.Int.{w32, from_be_bytes}
use Rattle.arch_disk.specs.Image.{Image}
use Rattle.disk_journal.specs.Format.{HasRecords, written, framed, AreSmall}
use Rattle.field_codec.specs.declared.entry.Entry.{Entry}
use Rattle.field_codec.specs.Spelling.{entry_octets}
use Rattle.archive_images.specs.Entries.{Archive, Applies, FilledArchive, IsSoundArchive, Replays}

-- the bodies of the journal's records are entries that make this archive with its fills
pub record StandsFilled (image : Image) (filled : FilledArchive) : Type 0 where
  pub entries : List Entry
  pub has : HasRecords (image 0) (map entry_octets entries)
  pub replays : Replays None entries (Some filled)

-- they make this archive, with some fills or none
pub record StandsFor (image : Image) (archive : Archive) : Type 0 where
  pub filled : FilledArchive
  pub plain_is : filled.plain ≡ archive
  pub stands : StandsFilled image filled

-- how many records the journal has
abbrev pub HasRecordCount : Image → ℕ → Type 0
HasRecordCount image number = (bodies : List (List ℕ)) × HasRecords (image 0) bodies × (number ≡ length bodies)

-- the fills of the archive that an image stands for are sound
abbrev pub IsSoundImage : Image → Type 0
IsSoundImage image = (filled : FilledArchive) → StandsFilled image filled → IsSoundArchive filled

-- the records of a file are those that it begins with, and behind them entries that go on from a base to this archive
pub record StandsInFile (image : Image) (file : ℕ) (beginning : List (List ℕ)) (base : Option FilledArchive)
    (filled : FilledArchive) : Type 0 where
  pub entries : List Entry
  pub has : HasRecords (image file) (beginning ++ map entry_octets entries)
  pub replays : Replays base entries (Some filled)

-- no entry with this body may follow
abbrev pub Breaks : Option FilledArchive → List ℕ → Type 0
Breaks before body =
    (entry : Entry) (after : FilledArchive) → body ≡ entry_octets entry → Applies before entry after → ⊥

-- a whole record stands there, with the gate octet after it, and breaks a rule
pub record IsWrong (before : Option FilledArchive) (rest : List ℕ) : Type 0 where
  pub body : List ℕ
  pub more : List ℕ
  pub small : length body < 2 ^ 32
  pub some : 0 < length more
  pub is : rest ≡ framed body ++ more
  pub breaks : Breaks before body

-- the record, with the gate octet after it, passes the file's end
abbrev pub IsCutShort : List ℕ → Type 0
IsCutShort rest = length rest ≤ 4 + from_be_bytes w32 (take 4 rest)

-- Behind the records that a file begins with stand entries that go on from a base; at this gate stands the first open
-- record that passes the file's end or breaks a rule.
pub record IsFileDamagedAt (image : Image) (file : ℕ) (beginning : List (List ℕ)) (base : Option FilledArchive)
    (at : ℕ) : Type 0 where
  pub entries : List Entry
  pub before : Option FilledArchive
  pub rest : List ℕ
  pub long : 2 ≤ length (image file)
  pub small : AreSmall (beginning ++ map entry_octets entries)
  pub replays : Replays base entries before
  pub file_is : image file ≡ written (beginning ++ map entry_octets entries) ++ 1 ∷ rest
  pub at_is : at ≡ length (written (beginning ++ map entry_octets entries))
  pub bad : IsCutShort rest ⊎ IsWrong before rest

-- the entries of file 0 stand at its beginning, and go on from nothing
abbrev pub IsArchiveDamagedAt : Image → ℕ → Type 0
IsArchiveDamagedAt image at = IsFileDamagedAt image 0 [] None at
