-- Where an image of which no archive can be read is damaged: at the first of the places at which it is read.
use Rattle.std.specs.Prelude.{◌≡◌, ◌⊎◌, ℕ, ◌+◌, List, [], ◌∷◌, ◌++◌, length, map, Option, Some, None}
use Rattle.std.specs.List.{AllByRecursion, flat_map}
use Rattle.arch_disk.specs.Image.{Image}
use Rattle.arch_types.specs.declared.row.Row.{Row}
use Rattle.octet_fields.specs.Exact.{IsOctets}
use Rattle.disk_journal.specs.Format.{HasRecords, written}
use Rattle.history_items.specs.Items.{after_rows, items_of}
use Rattle.archive_history.specs.Limits.{IsWithinOver}
use Rattle.field_codec.specs.declared.entry.Entry.{Entry}
use Rattle.field_codec.specs.declared.entry.Entry.TheVariants as entries
use Rattle.field_codec.specs.Entries.{IsArchiveEntry}
use Rattle.field_codec.specs.Spelling.{entry_octets}
use Rattle.run_pages.specs.Placed.{Placed, rows_of_placed}
use Rattle.run_pages.specs.Runs.{IsRunFile}
use Rattle.run_pages.specs.Damage.{IsRunDamagedAt}
use Rattle.seal_codec.specs.declared.seal.Seal.{Seal}
use Rattle.seal_codec.specs.declared.seal.SealedRun.{SealedRun}
use Rattle.archive_images.specs.Entries.{Applies, Archive, FilledArchive, IsPlaced, Replays}
use Rattle.archive_images.specs.SealFiles.{HasFills, HasSeals, HaveParts, Part, StoredFill, fill_entry, fill_record, log_head_record, seal_record}
use Rattle.archive_images.specs.Below.{IsSealedFill, PartsMake, rows_of_parts}
use Rattle.archive_images.specs.Moments.{MayFollow}
use Rattle.sealed_images.specs.Records.{IsBehindHeadDamagedAt, IsRecordDamagedAt, ReadsTo}

-- ---- one place

-- a file is broken at an octet; or it is read, as this, and the damage stands behind it
abbrev pub HereOrBehind : {X : Type 0} → (X → Type 0) → (ℕ → Type 0) → ℕ → (X → ℕ → ℕ → Type 0) → ℕ → ℕ → Type 0
HereOrBehind {X} Reads Broken place Behind file at =
    ((file ≡ place) × Broken at) ⊎ ((x : X) × Reads x × Behind x file at)

-- ---- file 0

-- what its records make: an archive, and the seals behind it
pub record ZeroSoFar : Type 0 where
  pub archive : Option FilledArchive
  pub seals : List Seal

-- an entry, as long as no seal stands there
pub record IsEntryInZero (was : ZeroSoFar) (body : List ℕ) (now : ZeroSoFar) : Type 0 where
  pub entry : Entry
  pub after : FilledArchive
  pub body_is : body ≡ entry_octets entry
  pub no_seal : was.seals ≡ []
  pub applies : Applies was.archive entry after
  pub now_is : now ≡ record { archive = Some after; seals = [] }

-- a seal, behind an archive
pub record IsSealInZero (was : ZeroSoFar) (body : List ℕ) (now : ZeroSoFar) : Type 0 where
  pub seal : Seal
  pub filled : FilledArchive
  pub archive_is : was.archive ≡ Some filled
  pub body_is : body ≡ seal_record seal
  pub follows : MayFollow (was.seals ++ seal ∷ [])
  pub now_is : now ≡ record { archive = was.archive; seals = was.seals ++ seal ∷ [] }

-- a record of file 0
abbrev pub FollowsInZero : ZeroSoFar → List ℕ → ZeroSoFar → Type 0
FollowsInZero was body now = IsEntryInZero was body now ⊎ IsSealInZero was body now

-- file 0 is damaged at this gate
abbrev pub IsZeroDamagedAt : Image → ℕ → Type 0
IsZeroDamagedAt image at = IsRecordDamagedAt FollowsInZero (image 0) [] (record { archive = None; seals = [] }) at

-- what file 0 says: its entries, the archive that they make, and the seals behind them
pub record Manifest : Type 0 where
  pub before : List Entry
  pub old : FilledArchive
  pub all : List Seal

-- file 0 says this
pub record SaysManifest (content : List ℕ) (manifest : Manifest) : Type 0 where
  pub has : HasSeals content manifest.before manifest.all
  pub replays : Replays None manifest.before (Some manifest.old)

-- ---- the files that seals name, as they are read: of a run's table nothing is asked yet

-- the file is a run of these rows, of whichever table
abbrev pub IsAnyRun : List ℕ → List Placed → Type 0
IsAnyRun content rows = (table : ℕ) × IsRunFile content table rows

-- the rows of runs
abbrev pub rows_of_placed_runs : List (List Placed) → List Row
rows_of_placed_runs runs = rows_of_placed (flat_map (λ run. run) runs)

-- a record of a fill file over the rows of runs so far, whatever records stand before it
pub record FollowsInFills (old : Archive) (sealed : ℕ) (so_far : List Row) (was : Unit {0}) (body : List ℕ)
    (now : Unit {0}) : Type 0 where
  pub fill : StoredFill
  pub body_is : body ≡ fill_record fill
  pub fits : IsArchiveEntry (fill_entry fill)
  pub may : IsSealedFill old sealed so_far fill

-- the fill file of a seal has these fills, which may stand there over the rows of runs so far
pub record AreFillsIn (image : Image) (old : Archive) (so_far : List Row) (seal : Seal) (fills : List StoredFill) :
    Type 0 where
  pub has : HasFills image seal fills
  pub may : AllByRecursion (IsSealedFill old seal.rows so_far) fills

-- it has no head of its seal's number of rows, or is damaged at a record
abbrev pub AreFillsBroken : Image → Archive → List Row → Seal → ℕ → Type 0
AreFillsBroken image old so_far seal at =
    IsBehindHeadDamagedAt (FollowsInFills old seal.rows so_far) (image seal.fills) seal.rows tt at

-- each named file is a run
abbrev pub AreRunsIn : Image → List SealedRun → List (List Placed) → Type 0
AreRunsIn image [] runs = runs ≡ []
AreRunsIn image (run ∷ more) [] = ⊥
AreRunsIn image (run ∷ more) (rows ∷ runs) = IsAnyRun (image run.file) rows × AreRunsIn image more runs

-- the files of these seals are read as these parts
abbrev pub AreSealsIn : Image → Archive → List Row → List Seal → List Part → Type 0
AreSealsIn image old before [] parts = parts ≡ []
AreSealsIn image old before (seal ∷ all) [] = ⊥
AreSealsIn image old before (seal ∷ all) (part ∷ parts) =
    let so_far = before ++ rows_of_placed_runs part.runs in
    AreRunsIn image seal.runs part.runs × AreFillsIn image old so_far seal part.fills
    × AreSealsIn image old so_far all parts

-- what the files of a seal hold
abbrev pub part_of : List (List Placed) → List StoredFill → Part
part_of runs fills = record { runs = runs; fills = fills }

-- in one of these runs, or behind them all
abbrev pub InRuns : Image → List SealedRun → (List (List Placed) → ℕ → ℕ → Type 0) → ℕ → ℕ → Type 0
InRuns image [] Behind = Behind []
InRuns image (run ∷ more) Behind =
    HereOrBehind (IsAnyRun (image run.file)) (IsRunDamagedAt (image run.file)) run.file
    (λ rows. InRuns image more (λ runs. Behind (rows ∷ runs)))

-- in a file of one of these seals, or behind them all: its runs come before its fill file
abbrev pub InSeals : Image → Archive → List Row → List Seal → (List Part → ℕ → ℕ → Type 0) → ℕ → ℕ → Type 0
InSeals image old before [] Behind = Behind []
InSeals image old before (seal ∷ all) Behind =
    InRuns image seal.runs (λ runs.
    let so_far = before ++ rows_of_placed_runs runs in
    HereOrBehind (AreFillsIn image old so_far seal) (AreFillsBroken image old so_far seal) seal.fills
    (λ fills. InSeals image old so_far all (λ parts. Behind (part_of runs fills ∷ parts))))

-- ---- the log

-- Rows that a record of the log may add: by the rules of an archive, but the rows of runs are as they were read, and
-- count as the seal says.
pub record MayAdd (old : Archive) (sealed : ℕ) (in_runs was rows : List Row) : Type 0 where
  pub spelled : IsArchiveEntry (entries.Rows rows)
  pub placed : AllByRecursion (IsPlaced old.head (items_of (in_runs ++ was))) rows
  pub octets : AllByRecursion (λ row. IsOctets row.packet) rows
  pub fresh : after_rows (items_of (in_runs ++ was)) rows ≡ items_of (in_runs ++ was) ++ items_of rows
  pub within : IsWithinOver old.exponent sealed in_runs (was ++ rows)

-- a record of rows
pub record AreRowsInLog (old : Archive) (sealed : ℕ) (in_runs was : List Row) (body : List ℕ) (now : List Row) :
    Type 0 where
  pub rows : List Row
  pub body_is : body ≡ entry_octets (entries.Rows rows)
  pub may : MayAdd old sealed in_runs was rows
  pub now_is : now ≡ was ++ rows

-- a record of a fill
pub record IsFillInLog (old : Archive) (sealed : ℕ) (in_runs was : List Row) (body : List ℕ) (now : List Row) :
    Type 0 where
  pub fill : StoredFill
  pub body_is : body ≡ fill_record fill
  pub fits : IsArchiveEntry (fill_entry fill)
  pub may : IsSealedFill old (sealed + length was) (in_runs ++ was) fill
  pub now_is : now ≡ was

-- a record of the log
abbrev pub FollowsInLog : Archive → ℕ → List Row → List Row → List ℕ → List Row → Type 0
FollowsInLog old sealed in_runs was body now =
    AreRowsInLog old sealed in_runs was body now ⊎ IsFillInLog old sealed in_runs was body now

-- the log has its head, and records that add these rows
pub record IsLogOfRows (content : List ℕ) (old : Archive) (sealed : ℕ) (in_runs rows : List Row) : Type 0 where
  pub bodies : List (List ℕ)
  pub has : HasRecords content (log_head_record sealed ∷ bodies)
  pub reads : ReadsTo (FollowsInLog old sealed in_runs) [] bodies rows

-- it has no head of the last seal's number of rows, or is damaged at a record
abbrev pub IsLogBroken : List ℕ → Archive → ℕ → List Row → ℕ → Type 0
IsLogBroken content old sealed in_runs at = IsBehindHeadDamagedAt (FollowsInLog old sealed in_runs) content sealed [] at

-- ---- an image

-- the rows of all runs are none that may be sealed: by their tables, their positions, or a rule on all rows
pub record AreRowsBroken (image : Image) (manifest : Manifest) (earlier : List Seal) (last : Seal) (parts : List Part)
    (at : ℕ) : Type 0 where
  pub none : (made : FilledArchive) → HaveParts image manifest.all parts →
      PartsMake manifest.old.plain manifest.all last.rows parts made → ⊥
  pub at_is : at ≡ length (written (map entry_octets manifest.before ++ map seal_record earlier))

-- in the log, or else, at the last seal's gate in file 0, in the rows of all runs
abbrev pub InLogOrRows : Image → Manifest → List Seal → Seal → List Part → ℕ → ℕ → Type 0
InLogOrRows image manifest earlier last parts =
    let in_runs = rows_of_placed (rows_of_parts parts) in
    HereOrBehind (IsLogOfRows (image last.log) manifest.old.plain last.rows in_runs)
    (IsLogBroken (image last.log) manifest.old.plain last.rows in_runs) last.log
    (λ rows f a. (f ≡ 0) × AreRowsBroken image manifest earlier last parts a)

-- in a file that seals name, or behind them
pub record IsBehindZero (image : Image) (manifest : Manifest) (file at : ℕ) : Type 0 where
  pub earlier : List Seal
  pub last : Seal
  pub split : manifest.all ≡ earlier ++ last ∷ []
  pub bad : InSeals image manifest.old.plain [] manifest.all (InLogOrRows image manifest earlier last) file at

-- an image is damaged at an octet of a file: in file 0, or else behind it
abbrev pub IsImageDamagedAt : Image → ℕ → ℕ → Type 0
IsImageDamagedAt image file at =
    HereOrBehind (SaysManifest (image 0)) (IsZeroDamagedAt image) 0 (IsBehindZero image) file at

-- file 0 says seals, their files hold parts that make an archive, and the last one's log is read as rows behind it
pub record IsImageRead (image : Image) (manifest : Manifest) (parts : List Part) (made : FilledArchive)
    (rows : List Row) : Type 0 where
  pub earlier : List Seal
  pub last : Seal
  pub split : manifest.all ≡ earlier ++ last ∷ []
  pub says : SaysManifest (image 0) manifest
  pub have : HaveParts image manifest.all parts
  pub make : PartsMake manifest.old.plain manifest.all last.rows parts made
  pub log : IsLogOfRows (image last.log) manifest.old.plain last.rows (rows_of_placed (rows_of_parts parts)) rows
