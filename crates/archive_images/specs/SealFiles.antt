-- Which files the seals of file 0 name, and what the named files hold.
use Rattle.std.specs.Prelude.{◌≡◌, ℕ, ◌≤◌, List, [], ◌∷◌, ◌++◌, map, true, Contains}
use Rattle.std.specs.List.{AllByRecursion, flat_map}
use Rattle.arch_disk.specs.Image.{Image}
use Rattle.intervals.specs.declared.interval.Interval.{Interval}
use Rattle.disk_journal.specs.Format.{HasRecords}
use Rattle.field_codec.specs.declared.entry.Entry.{Entry}
use Rattle.field_codec.specs.declared.entry.Entry.TheVariants as entries
use Rattle.field_codec.specs.Entries.{IsArchiveEntry}
use Rattle.field_codec.specs.Spelling.{entry_octets}
use Rattle.run_pages.specs.Placed.{Placed}
use Rattle.run_pages.specs.Runs.{IsRunFile}
use Rattle.seal_codec.specs.declared.seal.Seal.{Seal}
use Rattle.seal_codec.specs.declared.seal.SealedRun.{SealedRun}
use Rattle.seal_codec.specs.Files.{are_rising, files_named}
use Rattle.seal_codec.specs.Seals.{IsSeal}

-- ---- records

-- the record of a seal
abbrev pub seal_record : Seal → List ℕ
seal_record seal = entry_octets (entries.Seal seal)

-- the record that a fill file and a log begin with, over so many rows in runs
abbrev pub log_head_record : ℕ → List ℕ
log_head_record rows = entry_octets (entries.LogHead rows)

-- a fill as a record has it: its interval, its base, and the octets of its set
pub record StoredFill : Type 0 where
  pub interval : Interval
  pub base : ℕ
  pub octets : List ℕ

-- the entry of a fill
abbrev pub fill_entry : StoredFill → Entry
fill_entry fill = entries.Fill fill.interval fill.base fill.octets

-- the record of a fill
abbrev pub fill_record : StoredFill → List ℕ
fill_record fill = entry_octets (fill_entry fill)

-- ---- numbers of files and of rows

-- all files that seals name, in the order of the seals
abbrev pub files_of_seals : List Seal → List ℕ
files_of_seals all = flat_map files_named all

-- no seal is of fewer rows than the one before
abbrev pub AreGrown : ℕ → List Seal → Type 0
AreGrown rows [] = Unit {0}
AreGrown rows (seal ∷ more) = (rows ≤ seal.rows) × AreGrown seal.rows more

-- ---- file 0

-- file 0 has these entries and behind them these seals, which fit their fields, name rising files and seal ever more rows
pub record HasSeals (content : List ℕ) (before : List Entry) (all : List Seal) : Type 0 where
  pub has : HasRecords content (map entry_octets before ++ map seal_record all)
  pub fit : AllByRecursion IsSeal all
  pub rising : are_rising 0 (files_of_seals all) ≡ true
  pub grown : AreGrown 0 all

-- file 0 names a file
abbrev pub Names : Image → ℕ → Type 0
Names image file =
    (before : List Entry) × (all : List Seal) × HasSeals (image 0) before all × Contains (files_of_seals all) file

-- ---- the other files

-- each named file is a run of its table
abbrev pub HaveRuns : Image → List SealedRun → List (List Placed) → Type 0
HaveRuns image [] [] = Unit {0}
HaveRuns image [] (rows ∷ more) = ⊥
HaveRuns image (run ∷ runs) [] = ⊥
HaveRuns image (run ∷ runs) (rows ∷ more) =
    IsRunFile (image run.file) run.table rows × HaveRuns image runs more

-- the fill file of a seal is a journal: the head of its number of rows, and these fills
pub record HasFills (image : Image) (seal : Seal) (fills : List StoredFill) : Type 0 where
  pub has : HasRecords (image seal.fills) (log_head_record seal.rows ∷ map fill_record fills)
  pub fit : AllByRecursion (λ fill. IsArchiveEntry (fill_entry fill)) fills

-- what the files of a seal hold: the rows of each run, and fills
pub record Part : Type 0 where
  pub runs : List (List Placed)
  pub fills : List StoredFill

-- each seal's files hold its part
abbrev pub HaveParts : Image → List Seal → List Part → Type 0
HaveParts image [] [] = Unit {0}
HaveParts image [] (part ∷ parts) = ⊥
HaveParts image (seal ∷ more) [] = ⊥
HaveParts image (seal ∷ more) (part ∷ parts) =
    HaveRuns image seal.runs part.runs × HasFills image seal part.fills × HaveParts image more parts
