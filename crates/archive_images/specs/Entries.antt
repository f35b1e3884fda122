-- What the entries of a journal make, one after the other.
use Rattle.std.specs.Prelude.{◌≡◌, ◌<◌, ℕ, List, [], ◌∷◌, ◌++◌, length, Option, Some, None}
use Rattle.std.specs.List.{AllByRecursion}
use Rattle.intervals.specs.declared.interval.Interval.{Interval}
use Rattle.intervals.specs.Interval.{format_1_exponent}
use Rattle.arch_types.specs.declared.row.Row.{Row}
use Rattle.octet_fields.specs.Exact.{IsOctets}
use Rattle.history_items.specs.declared.fills.Fill.{Fill}
use Rattle.history_items.specs.declared.fills.Fill.TheVariants.{Done}
use Rattle.history_items.specs.declared.items.Item.{Item}
use Rattle.history_items.specs.Items.{after_rows, items_of, prefix, rows_in}
use Rattle.history_items.specs.Databases.{database_in, names_in}
use Rattle.interval_fills.specs.Steps.{IsStoredBase}
use Rattle.param_segments.specs.Extracted.{IsSetOf}
use Rattle.param_segments.specs.Octets.{rows_in_octets, set_octets}
use Rattle.param_segments.specs.Rows.{SetRow}
use Rattle.store_fills.specs.Filled.{HoldsRows}
use Rattle.store_fills.specs.LastFills.{fill_over}
use Rattle.store_fills.specs.Sound.{AreSound, Fillings, no_fillings, with_filling}
use Rattle.field_codec.specs.declared.entry.Entry.{Entry}
use Rattle.field_codec.specs.declared.entry.Entry.TheVariants as entries
use Rattle.row_codec.specs.Rows.{IsStored}
use Rattle.field_codec.specs.Entries.{IsArchiveEntry}
use Rattle.archive_images.specs.declared.head.Head.{Head}
use Rattle.archive_images.specs.Images.{ReplaysBy}
use Rattle.archive_history.specs.Limits.{IsWithin}

-- what a disk stands for: the head of its archive, the exponent of its intervals, and the history
pub record Archive : Type 0 where
  pub head : Head
  pub exponent : ℕ
  pub history : List Item

-- an archive of a head, the exponent of its intervals, and a history
abbrev pub archive : Head → ℕ → List Item → Archive
archive head exponent history = record { head = head; exponent = exponent; history = history }

-- an archive with the last fill of each interval that has one
pub record FilledArchive : Type 0 where
  pub plain : Archive
  pub fillings : Fillings (List SetRow)

-- the same with fills
abbrev pub filled_archive : Head → ℕ → List Item → Fillings (List SetRow) → FilledArchive
filled_archive head exponent history fillings = record { plain = archive head exponent history; fillings = fillings }

-- its fills are sound by the database in force
abbrev pub IsSoundArchive : FilledArchive → Type 0
IsSoundArchive filled =
    AreSound filled.plain.exponent (HoldsRows (database_in filled.plain.head.mdb filled.plain.history))
    filled.plain.history filled.fillings

-- the table of a row is one of the head, and its packet name one of the history
pub record IsPlaced (head : Head) (history : List Item) (row : Row) : Type 0 where
  pub table : row.table < length head.tables
  pub pname : row.pname < length (names_in head.mdb history)

-- A row that a store gives: a whole packet of octets that isn't idle, received within the clock's range, with the key
-- that it gives then, in a table that the head has, and of a packet name that the history has
pub record IsArchivedRow (head : Head) (history : List Item) (row : Row) : Type 0 where
  pub stored : IsStored row
  pub placed : IsPlaced head history row
  pub octets : IsOctets row.packet

-- all rows of an archive are such rows, if there is an archive
abbrev pub HasArchivedRows : Option FilledArchive → Type 0
HasArchivedRows None = Unit {0}
HasArchivedRows (Some filled) =
    AllByRecursion (IsArchivedRow filled.plain.head filled.plain.history) (rows_in filled.plain.history)

-- Rows that a record may add: they have a spelling, in octets, their tables and names are there, no table has one of
-- the keys, and the rows pass no limit.
pub record AreAdmitted (old : Archive) (rows : List Row) : Type 0 where
  pub spelled : IsArchiveEntry (entries.Rows rows)
  pub placed : AllByRecursion (IsPlaced old.head old.history) rows
  pub octets : AllByRecursion (λ row. IsOctets row.packet) rows
  pub fresh : after_rows old.history rows ≡ old.history ++ items_of rows
  pub within : IsWithin old.exponent (rows_in old.history ++ rows)

-- A fill that a record may add: it has a spelling, its base is at most the number of items and its interval is that of
-- some row among them, and its octets are those of a set of the interval and of the database in force below its base.
pub record IsFillable (old : FilledArchive) (interval : Interval) (base : ℕ) (octets : List ℕ) : Type 0 where
  pub fits : IsArchiveEntry (entries.Fill interval base octets)
  pub based : IsStoredBase old.plain.exponent interval base old.plain.history
  pub set : IsSetOf (database_in old.plain.head.mdb (prefix base old.plain.history)) old.plain.exponent interval.0
      (rows_in_octets octets)
  pub spelled : octets ≡ set_octets (rows_in_octets octets)

-- An entry makes an archive of nothing or of what there was: the first is a head, no other is, and rows and fills are
-- admitted. A seal and a log head make none: what they say is asked of the files that they stand in and name.
abbrev pub Applies : Option FilledArchive → Entry → FilledArchive → Type 0
Applies None (entries.Head tables mdb) new =
    IsArchiveEntry (entries.Head tables mdb)
    × (new ≡ filled_archive (record { tables = tables; mdb = mdb }) format_1_exponent [] no_fillings)
Applies None (entries.Rows rows) new = ⊥
Applies None (entries.Fill interval base octets) new = ⊥
Applies None (entries.Seal seal) new = ⊥
Applies None (entries.LogHead rows) new = ⊥
Applies (Some old) (entries.Head tables mdb) new = ⊥
Applies (Some old) (entries.Rows rows) new =
    AreAdmitted old.plain rows
    × (new ≡ filled_archive old.plain.head old.plain.exponent (old.plain.history ++ items_of rows) old.fillings)
Applies (Some old) (entries.Fill interval base octets) new =
    IsFillable old interval base octets
    × (new ≡ filled_archive old.plain.head old.plain.exponent old.plain.history
    (with_filling old.fillings interval (fill_over base (rows_in_octets octets))))
Applies (Some old) (entries.Seal seal) new = ⊥
Applies (Some old) (entries.LogHead rows) new = ⊥

-- the fills among entries, each of which was done, in their order
abbrev pub dones_of : List Entry → List Fill
dones_of [] = []
dones_of (entries.Head tables mdb ∷ rest) = dones_of rest
dones_of (entries.Rows rows ∷ rest) = dones_of rest
dones_of (entries.Fill interval base octets ∷ rest) = Done interval base ∷ dones_of rest
dones_of (entries.Seal seal ∷ rest) = dones_of rest
dones_of (entries.LogHead rows ∷ rest) = dones_of rest

-- these entries, one after the other
abbrev pub Replays : Option FilledArchive → List Entry → Option FilledArchive → Type 0
Replays old entries new = ReplaysBy Applies old entries new
