-- Whether what an archive keeps of its intervals is what their rows give. Of an archive with its fills, as a disk
-- stands for one.
use Rattle.std.specs.Prelude.{◌≡◌, ◌⊎◌, ℕ, ◌<◌, ◌<ℤ◌, true, List, length, map, slice_get, Some}
use Rattle.std.specs.List.{filter_map, list_any}
use Rattle.arch_disk.specs.Disk.{Device}
use Rattle.arch_types.specs.declared.cell.Cell.{Cell}
use Rattle.intervals.specs.declared.interval.Interval.{Interval}
use Rattle.refusals.specs.declared.refusal.Refusal.{Refusal}
use Rattle.refusals.specs.declared.refusal.Refusal.TheVariants.{Mismatch}
use Rattle.mdb_items.specs.Database.{Database}
use Rattle.container_extract.specs.Extraction.{cell_of}
use Rattle.history_items.specs.Databases.{database_in}
use Rattle.history_items.specs.Fills.{is_same}
use Rattle.history_items.specs.Items.{rows_in}
use Rattle.interval_fills.specs.Intervals.{NoneSince, rows_of_interval}
use Rattle.interval_walks.specs.Counts.{intervals_in, late_intervals}
use Rattle.param_segments.specs.Cells.{set_cells}
use Rattle.param_segments.specs.Rows.{SetRow}
use Rattle.store_fills.specs.Filled.{HoldsRows}
use Rattle.store_fills.specs.Sound.{Filling}
use Rattle.archive_store.specs.Entries.{FilledArchive}
use Rattle.archive_store.specs.Pages.{TellsRows}
use Rattle.archive_store.specs.UnreadRows.{IsReadRefusal}
use Rattle.archive_store.specs.StoreView.{StoreView, filled_of}
use Rattle.archive_verify.specs.declared.compared_sets.SetDifference.{SetDifference}
use Rattle.archive_verify.specs.declared.differences.CellDifference.{CellDifference}
use Rattle.archive_verify.specs.declared.verified.Sound.{Sound}
use Rattle.archive_verify.specs.Differences.{IsFirstDifference}

-- the database in force in an archive
abbrev pub database_of_archive : FilledArchive → Database
database_of_archive filled = database_in filled.plain.head.mdb filled.plain.history

-- the cells of a parameter that an interval's rows give
abbrev pub replayed_cells : FilledArchive → Interval → ℕ → List Cell
replayed_cells filled interval q =
    filter_map (cell_of (database_of_archive filled) q) (rows_of_interval filled.plain.exponent interval filled.plain.history)

-- ---- sound

-- a fill stands for an interval: it is the interval's, and nothing changed the interval at or after its base
pub record IsCurrentFill (filled : FilledArchive) (interval : Interval) (f : Filling (List SetRow)) : Type 0 where
  pub there : filled.fillings interval ≡ Some f
  pub current : NoneSince filled.plain.exponent interval f.base filled.plain.history

-- it holds the cells that the interval's rows give of each parameter
abbrev pub HoldsInterval : FilledArchive → Interval → Filling (List SetRow) → Type 0
HoldsInterval filled interval f =
    HoldsRows (database_of_archive filled) f.set (rows_of_interval filled.plain.exponent interval filled.plain.history)

-- so does the fill that stands for an interval, if one does
abbrev pub HoldsWhereCurrent : FilledArchive → Interval → Type 0
HoldsWhereCurrent filled interval =
    (f : Filling (List SetRow)) → IsCurrentFill filled interval f → HoldsInterval filled interval f

-- so do all
abbrev pub HoldCurrentFills : FilledArchive → Type 0
HoldCurrentFills filled = (interval : Interval) → HoldsWhereCurrent filled interval

-- so do those of the intervals that stand below one among these
abbrev pub HoldBelow : FilledArchive → List Interval → Interval → Type 0
HoldBelow filled intervals bound = (other : Interval) → list_any (is_same other) intervals ≡ true →
    other.0 <ℤ bound.0 → HoldsWhereCurrent filled other

-- ---- the first mismatch

-- the fill that stands for an interval holds other cells: the least parameter of which, and the least key where
pub record IsIntervalMismatch (filled : FilledArchive) (interval : Interval) (d : SetDifference) : Type 0 where
  pub fill : Filling (List SetRow)
  pub current : IsCurrentFill filled interval fill
  pub known : d.parameter < length (database_of_archive filled).parameters
  pub first : IsFirstDifference (set_cells (database_of_archive filled) d.parameter fill.set)
      (replayed_cells filled interval d.parameter) d.cells
  pub before : (q : ℕ) → q < d.parameter →
      set_cells (database_of_archive filled) q fill.set ≡ replayed_cells filled interval q

-- the least interval of which that holds
pub record IsFirstMismatch (filled : FilledArchive) (interval : Interval) (d : SetDifference) : Type 0 where
  pub here : IsIntervalMismatch filled interval d
  pub before : (other : Interval) → other.0 <ℤ interval.0 → HoldsWhereCurrent filled other

-- the refusal that names a difference, by the name of its parameter
abbrev pub IsMismatchOf : Database → Interval → SetDifference → Refusal → Type 0
IsMismatchOf db interval d (Mismatch i name key stored replayed) =
    (i ≡ interval) × (slice_get (map (λ p. p.name) db.parameters) d.parameter ≡ Some name)
    × (d.cells ≡ record { key = key; stored = stored; replayed = replayed })
IsMismatchOf db interval d _ = ⊥

-- the first mismatch, with the parameter's name
pub record IsNamedMismatch (filled : FilledArchive) (interval : Interval) (name : List ℕ) (d : CellDifference) : Type 0 where
  pub parameter : ℕ
  pub first : IsFirstMismatch filled interval (record { parameter = parameter; cells = d })
  pub named : slice_get (map (λ p. p.name) (database_of_archive filled).parameters) parameter ≡ Some name

-- a refusal reports the first mismatch
abbrev pub ReportsMismatch : FilledArchive → Refusal → Type 0
ReportsMismatch filled (Mismatch interval name key stored replayed) =
    IsNamedMismatch filled interval name (record { key = key; stored = stored; replayed = replayed })
ReportsMismatch filled _ = ⊥

-- a refusal names a cell that is stored otherwise than rows give it
abbrev pub IsMismatch : Refusal → Type 0
IsMismatch (Mismatch interval name key stored replayed) = Unit {0}
IsMismatch _ = ⊥

-- why an archive is not found sound: a mismatch, its first where the store tells its rows, or that its rows aren't read
abbrev pub IsVerifyRefusal : {D : Type 0} → Device D → StoreView D → StoreView D → Refusal → Type 0
IsVerifyRefusal device old new refusal =
    (IsMismatch refusal × (TellsRows device old → ReportsMismatch (filled_of old) refusal))
    ⊎ IsReadRefusal device old new refusal

-- ---- how much there is

-- how many rows a store has, in how many intervals rows of `tm` stand, and how many of these are late
pub record IsCounted {D : Type 0} (store : StoreView D) (sound : Sound) : Type 0 where
  pub rows : sound.rows ≡ length (rows_in store.history)
  pub intervals : sound.intervals ≡ length (intervals_in store.exponent store.history)
  pub late : sound.late ≡ length (late_intervals store.exponent store.history store.fills)
