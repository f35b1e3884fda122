-- What stands below a log.
use Rattle.std.specs.Prelude.{◌≡◌, ◌⊎◌, ℕ, ◌≤◌, List, [], ◌∷◌, ◌++◌, length, fold, Option, Some, None}
use Rattle.std.specs.List.{AllByRecursion, flat_map}
use Rattle.arch_disk.specs.Image.{Image}
use Rattle.arch_types.specs.declared.row.Row.{Row}
use Rattle.arch_types.specs.History.{IsHistory}
use Rattle.octet_fields.specs.Exact.{IsOctets}
use Rattle.history_items.specs.Items.{items_of}
use Rattle.history_items.specs.Late.{HasRow}
use Rattle.archive_history.specs.Limits.{IsWithin}
use Rattle.param_segments.specs.Extracted.{IsSetOf}
use Rattle.param_segments.specs.Octets.{rows_in_octets, set_octets}
use Rattle.param_segments.specs.Rows.{SetRow}
use Rattle.store_fills.specs.LastFills.{fill_over}
use Rattle.store_fills.specs.Sound.{Fillings, no_fillings, with_filling}
use Rattle.field_codec.specs.declared.entry.Entry.{Entry}
use Rattle.field_codec.specs.Spelling.{entry_octets}
use Rattle.run_pages.specs.Placed.{Placed, behind_positions, rows_of_placed}
use Rattle.seal_codec.specs.declared.seal.Seal.{Seal}
use Rattle.sealed_sums.specs.InOrder.{AreInOrder}
use Rattle.archive_images.specs.Entries.{Applies, Archive, FilledArchive, IsPlaced, Replays, filled_archive}
use Rattle.archive_images.specs.Images.{IsPlainLog, StandsOver}
use Rattle.archive_images.specs.SealFiles.{HasSeals, HaveParts, Part, StoredFill, log_head_record}

-- ---- rows

-- the rows of the runs of a part
abbrev pub rows_of_part : Part → List Placed
rows_of_part part = flat_map (λ run. run) part.runs

-- those of all parts, one part behind the other
abbrev pub rows_of_parts : List Part → List Placed
rows_of_parts parts = flat_map rows_of_part parts

-- Rows that runs may hold together, of the tables and packet names of an archive: no table has a key twice, and they pass
-- no limit.
pub record MaySeal (old : Archive) (rows : List Row) : Type 0 where
  pub history : IsHistory rows
  pub placed : AllByRecursion (IsPlaced old.head (items_of rows)) rows
  pub octets : AllByRecursion (λ row. IsOctets row.packet) rows
  pub within : IsWithin old.exponent rows

-- ---- fills

-- A fill of a fill file over so many rows: its base is at most that number, its interval is that of some row of this or of an
-- earlier seal's runs, and its octets are those of a set of the interval.
pub record IsSealedFill (old : Archive) (sealed : ℕ) (so_far : List Row) (fill : StoredFill) : Type 0 where
  pub base : fill.base ≤ sealed
  pub row : HasRow old.exponent fill.interval (items_of so_far)
  pub set : IsSetOf old.head.mdb old.exponent fill.interval.0 (rows_in_octets fill.octets)
  pub spelled : fill.octets ≡ set_octets (rows_in_octets fill.octets)

-- those of each part are, over its seal's number of rows
abbrev pub AreSealedFills : Archive → List Row → List Seal → List Part → Type 0
AreSealedFills old before [] parts = parts ≡ []
AreSealedFills old before (seal ∷ seals) [] = ⊥
AreSealedFills old before (seal ∷ seals) (part ∷ parts) =
    let so_far = before ++ rows_of_placed (rows_of_part part) in
    AllByRecursion (IsSealedFill old seal.rows so_far) part.fills × AreSealedFills old so_far seals parts

-- the last fills, after one more
abbrev pub after_fill : Fillings (List SetRow) → StoredFill → Fillings (List SetRow)
after_fill fillings fill = with_filling fillings fill.interval (fill_over fill.base (rows_in_octets fill.octets))

-- the last fill of each interval among those of all parts
abbrev pub fillings_of : List Part → Fillings (List SetRow)
fillings_of parts = fold after_fill no_fillings (flat_map (λ part. part.fills) parts)

-- ---- archives

-- The parts of seals make an archive: its head is that of file 0, its rows are those of all runs, each at its position from 0 to
-- below the last seal's number, and its fills the last of the fill files. Of file 0's own rows and fills nothing counts.
pub record PartsMake (old : Archive) (seals : List Seal) (sealed : ℕ) (parts : List Part) (made : FilledArchive) : Type 0 where
  pub rows : List Row
  pub in_order : AreInOrder (behind_positions (rows_of_parts parts)) rows
  pub count : length rows ≡ sealed
  pub admitted : MaySeal old rows
  pub fills : AreSealedFills old [] seals parts
  pub made_is : made ≡ filled_archive old.head old.exponent (items_of rows) (fillings_of parts)

-- file 0 ends with seals, and what their files hold makes the archive from which the last one's log goes on
pub record IsSealed (image : Image) (log : ℕ) (beginning : List (List ℕ)) (base : Option FilledArchive) : Type 0 where
  pub before : List Entry
  pub old : FilledArchive
  pub earlier : List Seal
  pub last : Seal
  pub parts : List Part
  pub made : FilledArchive
  pub manifest : HasSeals (image 0) before (earlier ++ last ∷ [])
  pub replays : Replays None before (Some old)
  pub have : HaveParts image (earlier ++ last ∷ []) parts
  pub make : PartsMake old.plain (earlier ++ last ∷ []) last.rows parts made
  pub log_is : log ≡ last.log
  pub beginning_is : beginning ≡ log_head_record last.rows ∷ []
  pub base_is : base ≡ Some made

-- what stands below a log: nothing where file 0 is the log, else what its seals name
abbrev pub IsBelow : Image → ℕ → List (List ℕ) → Option FilledArchive → Type 0
IsBelow image log beginning base = IsPlainLog {A = FilledArchive} image log beginning base ⊎ IsSealed image log beginning base

-- an image stands for an archive with its fills, sealed or not
abbrev pub StandsSealed : Image → FilledArchive → Type 0
StandsSealed image filled = StandsOver entry_octets Applies IsBelow image filled
