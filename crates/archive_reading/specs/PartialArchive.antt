-- What a reading of an archive gives.
use Rattle.std.specs.Prelude.{◌≡◌, ◌≤◌, IsTrue, List, [], ◌++◌, Option, Some, None, ℕ, map, length, option_map}
use Rattle.std.specs.List.{AllByRecursion}
use Rattle.arch_disk.specs.Disk.{Device, NoFault, raised}
use Rattle.intervals.specs.declared.interval.Interval.{Interval}
use Rattle.history_items.specs.declared.fills.Fill.{Fill}
use Rattle.history_items.specs.Items.{databases_in, prefix}
use Rattle.refusals.specs.declared.refusal.Refusal.{Refusal}
use Rattle.disk_journal.specs.Calls.{content_read, read_so_far}
use Rattle.disk_journal.specs.Format.{HasRecords, written}
use Rattle.disk_journal.specs.Reading.{file_read}
use Rattle.disk_journal.specs.State.{extents_from, file_of, unhealed_fault}
use Rattle.disk_journal.specs.declared.journal.Journal.{Journal}
use Rattle.disk_journal.specs.declared.opening.Opening.{Opening}
use Rattle.disk_journal.specs.declared.fault.JournalFault.{JournalFault}
use Rattle.field_codec.specs.declared.entry.Entry.{Entry}
use Rattle.field_codec.specs.Entries.{IsArchiveEntry}
use Rattle.field_codec.specs.Spelling.{entry_octets}
use Rattle.fill_tracker.specs.FillTracker.{AreMarksOf}
use Rattle.store_fills.specs.Faults.{IsDone}
use Rattle.mdb_items.specs.Database.{Database}
use Rattle.param_segments.specs.Extracted.{IsSetOf}
use Rattle.param_segments.specs.Octets.{rows_in_octets, set_octets}
use Rattle.param_segments.specs.Rows.{SetRow}
use Rattle.store_fills.specs.LastFills.{fillings_in, PlacedFills}
use Rattle.archive_images.specs.declared.head.Head.{Head}
use Rattle.archive_reading.specs.declared.partial.PartialArchive.{PartialArchive}
use Rattle.archive_reading.specs.declared.records.ReadArchive.{ReadArchive}
use Rattle.archive_images.specs.Entries.{Archive, FilledArchive, archive, filled_archive, HasArchivedRows, Replays, dones_of}
use Rattle.archive_images.specs.Stands.{IsFileDamagedAt}
use Rattle.intervals.specs.Interval.{format_1_exponent}
use Rattle.history_items.specs.declared.items.Item.{Item}
use Rattle.history_items.specs.Databases.{database_in}
use Rattle.history_items.specs.Fills.{base_in}
use Rattle.store_fills.specs.Sound.{Filling, base_of_filling}
use Rattle.archive_history.specs.History.{HistoryView}
use Rattle.refusals.specs.declared.refusal.Refusal.TheVariants as refused
use Rattle.disk_journal.specs.declared.fault.JournalFault.TheVariants as faults
use Rattle.field_codec.specs.declared.entry.Entry.TheVariants as entries

-- the history has a table for each name of the head, and its intervals are those of the head's format
abbrev pub IsHistoryOf : Head → HistoryView → Type 0
IsHistoryOf head history = (history.tables ≡ length head.tables) × (history.exponent ≡ format_1_exponent)

-- The fill list and the fills that are there tell one base of each interval, and each set is one of its interval and of
-- the database that is in force below its base.
pub record HoldsFills (head : Head) (exponent : ℕ) (history : List Item) (fills : List Fill) (filled : PlacedFills)
    : Type 0 where
  pub bases : (i : Interval) → base_in i fills ≡ base_of_filling (fillings_in filled) i
  pub fits : (i : Interval) (f : Filling (List SetRow)) → fillings_in filled i ≡ Some f →
      IsSetOf (database_in head.mdb (prefix f.base history)) exponent i.0 f.set

-- the archive of what entries have made, without its fills
abbrev pub plain_made : PartialArchive → Archive
plain_made made = archive made.head made.history.exponent made.history.items

-- the archive of what entries have made
abbrev pub filled_made : PartialArchive → FilledArchive
filled_made made = filled_archive made.head made.history.exponent made.history.items (fillings_in made.sets.filled)

-- what the entries so far have made
abbrev pub archive_made : Option PartialArchive → Option FilledArchive
archive_made made = option_map filled_made made

-- what the entries so far tell of fills
abbrev pub fills_made : Option PartialArchive → List Fill
fills_made None = []
fills_made (Some made) = made.tracker.fills

-- the history is one of the head, which has a spelling
abbrev pub IsReadHistory : Option PartialArchive → Type 0
IsReadHistory None = Unit {0}
IsReadHistory (Some made) =
    IsHistoryOf made.head made.history × IsArchiveEntry (entries.Head made.head.tables made.head.mdb)

-- fills that are there were noted and nothing else, the marks are those of the history and of these, and their sets are
-- kept; the history has rows alone
abbrev pub HasMarks : Option PartialArchive → Type 0
HasMarks None = Unit {0}
HasMarks (Some made) =
    AllByRecursion IsDone made.tracker.fills
    × AreMarksOf made.history.exponent made.history.items made.tracker.fills made.tracker.marks
    × HoldsFills made.head made.history.exponent made.history.items made.tracker.fills made.sets.filled
    × (databases_in made.history.items ≡ [])

-- what entries may go on from: its history is one of its head, its marks and fills are those of the history, and its
-- rows are such as a store gives
abbrev pub IsBase : Option PartialArchive → Type 0
IsBase base = IsReadHistory base × HasMarks base × HasArchivedRows (archive_made base)

-- octets hold this set of an interval of this exponent and of a database, or they are the spelling of none
abbrev pub IsSetRead : Database → ℕ → Interval → List ℕ → Option (List SetRow) → Type 0
IsSetRead db exponent interval octets None =
    (rows : List SetRow) → IsSetOf db exponent interval.0 rows → octets ≡ set_octets rows → ⊥
IsSetRead db exponent interval octets (Some rows) =
    IsSetOf db exponent interval.0 rows × (octets ≡ set_octets rows) × (rows ≡ rows_in_octets octets)

-- The octets of a file are records: those that it begins with, and behind them entries that go on from a base to this
-- archive. The journal has the places of all.
pub record IsFileRead (content : List ℕ) (beginning : List (List ℕ)) (base : Option FilledArchive) (journal : Journal)
    (found : FilledArchive) : Type 0 where
  pub entries : List Entry
  pub has : HasRecords content (beginning ++ map entry_octets entries)
  pub replays : Replays base entries (Some found)
  pub extents : journal.extents.items ≡ extents_from 0 (beginning ++ map entry_octets entries)
  pub end : journal.end ≡ length (written (beginning ++ map entry_octets entries))

-- the entries of file 0 stand at its beginning, and go on from nothing
abbrev pub IsReadArchive : List ℕ → Journal → FilledArchive → Type 0
IsReadArchive content journal found = IsFileRead content [] None journal found

-- the refusal for a fault of the journal that is read in a file
abbrev pub read_refusal : ℕ → JournalFault → Refusal
read_refusal file faults.Exists = refused.DiskFault
read_refusal file faults.NoArchive = refused.NoArchive
read_refusal file (faults.Damaged at) = refused.Damaged file at
read_refusal file (faults.NeedsReopen faults) = refused.DiskFault
read_refusal file faults.Limit = refused.DiskFault
read_refusal file (faults.DiskFault wrote) = refused.DiskFault
read_refusal file faults.OutOfMemory = refused.OutOfMemory

-- the refusal for a fault of a journal that is made
abbrev pub refusal_of_create : JournalFault → Refusal
refusal_of_create faults.Exists = refused.Exists
refusal_of_create faults.NoArchive = refused.DiskFault
refusal_of_create (faults.Damaged at) = refused.DiskFault
refusal_of_create (faults.NeedsReopen faults) = refused.DiskFault
refusal_of_create faults.Limit = refused.DiskFault
refusal_of_create (faults.DiskFault wrote) = refused.DiskFault
refusal_of_create faults.OutOfMemory = refused.OutOfMemory

-- the journal of the file whole, and the archive that its entries make behind the records that were read before, from
-- a base, with their fills behind the base's in the fill list and all that the type of a store keeps of it
pub record IsArchiveRead {D : Type 0} (device : Device D) (disk : D) (opening : Opening) (base : Option PartialArchive)
    (read : ReadArchive) : Type 0 where
  pub archive_is : IsTrue device.is_transparent →
      IsFileRead (content_read device opening disk) (read_so_far device opening disk) (archive_made base) read.journal
      (filled_made read.made)
  pub dones : (transparent : IsTrue device.is_transparent) →
      read.made.tracker.fills ≡ fills_made base ++ dones_of (archive_is transparent).entries
  pub in_file : file_of read.journal ≡ file_read opening
  pub no_pending_fault : unhealed_fault read.journal ≡ None
  pub tables : IsReadHistory (Some read.made)
  pub marks : HasMarks (Some read.made)
  pub rows : HasArchivedRows (archive_made (Some read.made))

-- why no archive was read: an open record behind those that were read before passes the file's end or breaks a rule, a
-- read failed, or memory is wanting
abbrev pub IsArchiveReadRefusal
    : {D : Type 0} → Device D → D → D → Opening → Option PartialArchive → Refusal → Type 0
IsArchiveReadRefusal device before after opening base (refused.Damaged file at) =
    (IsTrue device.is_transparent → (file ≡ file_read opening)
    × IsFileDamagedAt (device.reads before) file (read_so_far device opening before) (archive_made base) at)
    × NoFault device before after
IsArchiveReadRefusal device before after opening base refused.DiskFault =
    raised (device.fault_count before) ≤ device.fault_count after
IsArchiveReadRefusal device before after opening base refused.OutOfMemory = NoFault device before after
IsArchiveReadRefusal device before after opening base _ = ⊥
