-- What holds of segment sets.
use Rattle.std.specs.Prelude.{◌≡◌, ◌↔◌, ◌<◌, ◌^◌, ℕ, List, flat_map, length, map}
use Rattle.std.specs.List.{AllByRecursion}
use Rattle.std.specs.List.Sorted.{IsStrictlySortedBy}
use Rattle.arch_types.specs.Order.{key_cmp, order_by}
use Rattle.mdb_items.specs.Database.{Database}
use Rattle.segment_codec.specs.Segment.{IsSegment}
use Rattle.segment_codec.specs.declared.segment.Segment.{Segment}
use Rattle.param_segments.specs.Cells.{AreValuesOf, is_cell_before, is_cell_earlier, set_cells, set_raw_cells, with_eng}
use Rattle.param_segments.specs.Rows.{SetRow, AreSetRows}
use Rattle.param_segments.specs.Groups.{set_of}
use Rattle.param_segments.specs.Segments.{rows_of_segment, rows_of_segments}
use Rattle.param_segments.specs.SetSegments.{AreSetSegments}
use Rattle.param_segments.specs.Octets.{rows_of_numbered_segment, set_octets}

-- the rows of the segments of rows are these rows
abbrev pub SetHasItsRows : Type 0
SetHasItsRows = (rows : List SetRow) → AreSetRows rows → rows_of_segments (set_of rows) ≡ rows

-- they are segments, each of 1 to 4,096 rows
abbrev pub SetIsSegments : Type 0
SetIsSegments = (rows : List SetRow) → AreSetRows rows → AllByRecursion IsSegment (set_of rows)

-- segments are those of some rows exactly where they are a run of each group of their rows
abbrev pub SegmentsAreOfASet : Type 0
SegmentsAreOfASet = (segments : List Segment) →
    AreSetSegments segments ↔ ((rows : List SetRow) × AreSetRows rows × (set_of rows ≡ segments))

-- rows have one spelling
abbrev pub SpellingIsOne : Type 0
SpellingIsOne = (a b : List SetRow) → AreSetRows a → AreSetRows b → length (set_of a) < 2 ^ 32 → length (set_of b) < 2 ^ 32 → set_octets a ≡ set_octets b → a ≡ b

-- the cells of a parameter in the rows of each segment, merged by their keys, are its cells in the rows
abbrev pub SegmentsMakeTheCells : Type 0
SegmentsMakeTheCells = (db : Database) (rows : List SetRow) (q : ℕ) → AreSetRows rows → AreValuesOf db rows
    → order_by is_cell_before (flat_map (λ s. set_cells db q (rows_of_segment s)) (set_of rows)) ≡ set_cells db q rows

-- so are its raw cells
abbrev pub SegmentsMakeTheRawCells : Type 0
SegmentsMakeTheRawCells = (rows : List SetRow) (q : ℕ) → AreSetRows rows → order_by is_cell_earlier (flat_map (λ s. set_raw_cells q (rows_of_segment s)) (set_of rows)) ≡ set_raw_cells q rows

-- the keys of a parameter's cells in one segment rise
abbrev pub SegmentCellsRise : Type 0
SegmentCellsRise = (rows : List SetRow) (q number : ℕ) → AreSetRows rows → number < length (set_of rows) → IsStrictlySortedBy key_cmp (map (λ c. c.key) (set_raw_cells q (rows_of_numbered_segment rows number)))

-- raw cells, calibrated, are the cells
abbrev pub RawCellsMakeTheCells : Type 0
RawCellsMakeTheCells = (db : Database) (rows : List SetRow) (q : ℕ) → AreValuesOf db rows → map (with_eng db q) (set_raw_cells q rows) ≡ set_cells db q rows
