-- What a log's entries come to, and what a seal makes of them.
use Rattle.std.specs.Prelude.{◌≡◌, ℕ, suc, List, [], ◌∷◌, map, Some}
use Rattle.std.specs.List.{flat_map}
use Rattle.arch_types.specs.declared.row.Row.{Row}
use Rattle.history_items.specs.declared.fills.Fill.{Fill}
use Rattle.history_items.specs.declared.fills.Fill.TheVariants.{Done}
use Rattle.field_codec.specs.declared.entry.Entry.{Entry}
use Rattle.field_codec.specs.declared.entry.Entry.TheVariants as entries
use Rattle.field_codec.specs.Spelling.{entry_octets}
use Rattle.run_pages.specs.Placed.{Placed, row_placed}
use Rattle.archive_images.specs.Entries.{FilledArchive, Replays}
use Rattle.archive_images.specs.SealFiles.{StoredFill}

-- rows that came one behind the other, at positions from a first one on
abbrev pub from_position : ℕ → List Row → List Placed
from_position first [] = []
from_position first (row ∷ rows) = row_placed first row ∷ from_position (suc first) rows

-- the rows of an entry
abbrev pub rows_of_entry : Entry → List Row
rows_of_entry (entries.Head tables mdb) = []
rows_of_entry (entries.Rows rows) = rows
rows_of_entry (entries.Fill interval base octets) = []
rows_of_entry (entries.Seal seal) = []
rows_of_entry (entries.LogHead rows) = []

-- the rows of entries, in their order
abbrev pub rows_of_entries : List Entry → List Row
rows_of_entries all = flat_map rows_of_entry all

-- the fill that an entry is, where it is one
abbrev pub fill_of_entry : Entry → List StoredFill
fill_of_entry (entries.Head tables mdb) = []
fill_of_entry (entries.Rows rows) = []
fill_of_entry (entries.Fill interval base octets) =
    (let fill : StoredFill = record { interval = interval; base = base; octets = octets } in fill) ∷ []
fill_of_entry (entries.Seal seal) = []
fill_of_entry (entries.LogHead rows) = []

-- the fills of entries, in their order
abbrev pub fills_of_entries : List Entry → List StoredFill
fills_of_entries all = flat_map fill_of_entry all

-- the places of the fills among entries, counted from a first one on
abbrev pub fill_places : ℕ → List Entry → List ℕ
fill_places first [] = []
fill_places first (entries.Head tables mdb ∷ more) = fill_places (suc first) more
fill_places first (entries.Rows rows ∷ more) = fill_places (suc first) more
fill_places first (entries.Fill interval base octets ∷ more) = first ∷ fill_places (suc first) more
fill_places first (entries.Seal seal ∷ more) = fill_places (suc first) more
fill_places first (entries.LogHead rows ∷ more) = fill_places (suc first) more

-- a fill as one that was done
abbrev pub done_of_stored : StoredFill → Fill
done_of_stored fill = Done fill.interval fill.base

-- the bodies of records are those of entries that have these rows and go on from an archive
pub record AreOfEntries (start : FilledArchive) (bodies : List (List ℕ)) (rows : List Row) : Type 0 where
  pub es : List Entry
  pub filled : FilledArchive
  pub bodies_are : bodies ≡ map entry_octets es
  pub rows_are : rows ≡ rows_of_entries es
  pub replays : Replays (Some start) es (Some filled)
