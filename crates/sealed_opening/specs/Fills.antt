-- Fills of a fill file, one after the other.
use Rattle.std.specs.Prelude.{◌≡◌, ℕ, ◌≤◌, List, [], ◌∷◌, ◌++◌, map, true, IsTrue}
use Rattle.arch_disk.specs.Disk.{Device}
use Rattle.arch_disk.specs.Image.{Image}
use Rattle.intervals.specs.declared.interval.Interval.{Interval}
use Rattle.history_items.specs.declared.fills.Fill.{Fill}
use Rattle.history_items.specs.declared.fills.Fill.TheVariants.{Done}
use Rattle.fill_tracker.specs.Placed.{KeepsMarksOfPlaced}
use Rattle.late_marks.specs.Marks.{has_rows}
use Rattle.field_codec.specs.Entries.{IsArchiveEntry}
use Rattle.param_segments.specs.Extracted.{IsSetOf}
use Rattle.param_segments.specs.Octets.{rows_in_octets, set_octets}
use Rattle.param_segments.specs.Rows.{SetRow}
use Rattle.run_pages.specs.Placed.{rows_of_placed}
use Rattle.seal_codec.specs.declared.seal.Seal.{Seal}
use Rattle.store_fills.specs.LastFills.{fillings_in}
use Rattle.store_fills.specs.Sound.{Fillings}
use Rattle.archive_images.specs.declared.head.Head.{Head}
use Rattle.archive_images.specs.Below.{after_fill}
use Rattle.archive_images.specs.Entries.{Archive, archive}
use Rattle.archive_images.specs.SealFiles.{StoredFill, fill_entry, fill_record}
use Rattle.sealed_images.specs.Damage.{AreFillsBroken, AreFillsIn}
use Rattle.sealed_opening.specs.SoFar.{HasOwnMarks, rows_so_far}
use Rattle.sealed_opening.specs.declared.fills.FillRecords.{FillRecords}
use Rattle.sealed_opening.specs.declared.so_far.SealedSoFar.{SealedSoFar}

-- a fill by its fields
abbrev pub stored_fill : Interval → ℕ → List ℕ → StoredFill
stored_fill interval base octets = record { interval = interval; base = base; octets = octets }

-- ---- one record

-- A fill may stand there: its base is at most the seal's number of rows, its interval has a row among those of runs so far, and its
-- octets are those of a set of the interval.
pub record IsSealedFillBy (was : FillRecords) (fill : StoredFill) : Type 0 where
  pub fits : IsArchiveEntry (fill_entry fill)
  pub base : fill.base ≤ was.rows
  pub row : has_rows was.tracker.marks fill.interval ≡ true
  pub set : IsSetOf was.head.now.mdb was.exponent fill.interval.0 (rows_in_octets fill.octets)
  pub spelled : fill.octets ≡ set_octets (rows_in_octets fill.octets)

-- a body is such a fill
abbrev pub MayBeFill : FillRecords → List ℕ → Type 0
MayBeFill was body = (fill : StoredFill) × (body ≡ fill_record fill) × IsSealedFillBy was fill

-- it was taken: it is the last one of its interval from then on
pub record IsFillTaken (was : FillRecords) (body : List ℕ) (now : FillRecords) : Type 0 where
  pub fill : StoredFill
  pub body_is : body ≡ fill_record fill
  pub may : IsSealedFillBy was fill
  pub fills : now.tracker.fills ≡ was.tracker.fills ++ Done fill.interval fill.base ∷ []
  pub marks : KeepsMarksOfPlaced was.tracker now.tracker
  pub sets : fillings_in now.sets.filled ≡ after_fill (fillings_in was.sets.filled) fill
  pub head : now.head.now ≡ was.head.now
  pub exponent : now.exponent ≡ was.exponent
  pub rows : now.rows ≡ was.rows

-- nothing holds of all fills that are read but what `IsFillTaken` says
abbrev pub NothingIsKept : FillRecords → Type 0
NothingIsKept records = Unit {0}

-- ---- the file

-- an archive of which nothing but the head and the exponent counts
abbrev pub bare : Head → ℕ → Archive
bare head exponent = archive head exponent []

-- a Done of each fill
abbrev pub dones_of_stored : List StoredFill → List Fill
dones_of_stored fills = map (λ fill. Done fill.interval fill.base) fills

-- the last fills, behind some more
abbrev pub after_fills : Fillings (List SetRow) → List StoredFill → Fillings (List SetRow)
after_fills fillings [] = fillings
after_fills fillings (fill ∷ fills) = after_fills (after_fill fillings fill) fills

-- the fill file of a seal has these fills, which may stand over the rows of runs so far, and each was noted
pub record AreFillsNoted {D : Type 0} (device : Device D) (disk : D) (head : Head) (seal : Seal)
    (was now : SealedSoFar) : Type 0 where
  pub fills : List StoredFill
  pub file : IsTrue device.is_transparent → HasOwnMarks was →
      AreFillsIn (device.reads disk) (bare head was.sums.exponent) (rows_of_placed (rows_so_far was)) seal fills
  pub dones : now.tracker.fills ≡ was.tracker.fills ++ dones_of_stored fills
  pub marks : KeepsMarksOfPlaced was.tracker now.tracker
  pub sets : fillings_in now.sets.filled ≡ after_fills (fillings_in was.sets.filled) fills
  pub sums : now.sums ≡ was.sums
  pub runs : now.runs.items ≡ was.runs.items
  pub told : now.told.items ≡ was.told.items
  pub positions : now.positions ≡ was.positions
  pub placed : now.are_placed ≡ was.are_placed

-- the fill file of a seal is damaged at this octet, over the rows of runs so far
abbrev pub IsInFillFile : Image → Head → Seal → SealedSoFar → ℕ → ℕ → Type 0
IsInFillFile image head seal so_far file at =
    HasOwnMarks so_far → (file ≡ seal.fills) × AreFillsBroken image (bare head so_far.sums.exponent) (rows_of_placed (rows_so_far so_far)) seal at
