-- A segment that lies before a time, as the next one shows.
use Rattle.std.proofs.Common.{◌≡◌, ◌∙◌, ℕ, ◌+◌, ◌<◌, ℤ, List, [], ◌∷◌, length, Bool, true, cond, not, ◌&&◌, Option, Some, None, refl, sym, ap, subst, arith}
use Rattle.std.specs.Prelude.{◌<ℤ◌, ◌≤ℤ◌, ◌==◌, filter, int_lt, option_map}
use Rattle.std.specs.List.{AllByRecursion, position}
use Rattle.std.proofs.lemmas.Int.{ints}
use Rattle.arch_types.specs.declared.key.Key.{Key}
use Rattle.segment_codec.specs.OneColumn.{column_there}
use Rattle.segment_codec.specs.SegmentHead.{IsHeadOf}
use Rattle.segment_codec.specs.declared.segment.Segment.{Segment}
use Rattle.segment_codec.specs.declared.segment_head.SegmentHead.{SegmentHead}
use Rattle.param_segments.specs.CellRange.{is_raw_cell_in_range, segment_cells_in_range}
use Rattle.param_segments.specs.Cells.{cells_from, column_cells}
use Rattle.param_segments.specs.Groups.{set_of}
use Rattle.param_segments.specs.Octets.{IsSpelledSet, rows_in_octets}
use Rattle.param_segments.specs.declared.raw_cell.RawCell.{RawCell}
use Rattle.param_segments.proofs.RangeCells.{times_rise}
use Rattle.param_segments.proofs.SetRuns.{AreBefore, neighbours_in_order}
use Rattle.param_segments.proofs.Starts.{length-of_starts, no_segment, segment_number}

earlier : (a b c : ℤ) → a ≤ℤ b → b <ℤ c → a <ℤ c
earlier a b c h k = omega (arith, ints)

-- keys before one that is before a time are before it too
keys_earlier : (time : ℤ) (first : Key) (keys others : List Key) → AreBefore keys (first ∷ others) → first.time <ℤ time → AllByRecursion (λ (k : Key). k.time <ℤ time) keys
keys_earlier time first [] others before lt = tt
keys_earlier time first (k ∷ keys) others before lt = (earlier k.time first.time time (times_rise k first before.0.0) lt, keys_earlier time first keys others before.1 lt)

-- where the next segment has the same parameters and begins before a time, all keys of the first are before it
pub passed_by : (octets starts : List ℕ) (i : ℕ) (own other : SegmentHead) (time : ℤ) → IsSpelledSet octets starts → i + 1 < length starts → IsHeadOf (segment_number octets i) own → IsHeadOf (segment_number octets (i + 1)) other →
    own.parameters ≡ other.parameters → other.first.time <ℤ time → AllByRecursion (λ (k : Key). k.time <ℤ time) (segment_number octets i).keys
passed_by octets starts i own other time is lt head next same before =
    let rows = rows_in_octets octets in
    let inside : i + 1 < length (set_of rows) = subst (λ (n : ℕ). i + 1 < n) (length-of_starts octets starts is) lt in
    let ordered = neighbours_in_order rows i no_segment is.rows inside (sym head.parameters ∙ same ∙ next.parameters) in
    keys_earlier time other.first (segment_number octets i).keys next.first.0 (subst (AreBefore (segment_number octets i).keys) next.first.1 ordered.1) before

-- ---- such a segment has no cell in a range from there on

is_before_time : (a b : ℤ) → a <ℤ b → int_lt a b ≡ true
is_before_time a b h = grind (arith, ints)

early_cells : (low high : ℤ) (keys : List Key) (values : List ℤ) → AllByRecursion (λ (k : Key). k.time <ℤ low) keys → filter (is_raw_cell_in_range low high) (cells_from keys values) ≡ []
early_cells low high [] values all = refl
early_cells low high (k ∷ keys) [] all = refl
early_cells low high (k ∷ keys) (v ∷ values) all =
    let cell : RawCell = record { key = k; raw = v } in
    let rest = filter (is_raw_cell_in_range low high) (cells_from keys values) in
    ap (λ (b : Bool). cond (not b && int_lt k.time high) (cell ∷ rest) rest) (is_before_time k.time low all.0) ∙ early_cells low high keys values all.1

place_cases : (low high : ℤ) (s : Segment) (o : Option ℕ) → AllByRecursion (λ (k : Key). k.time <ℤ low) s.keys → filter (is_raw_cell_in_range low high) (column_cells (option_map (column_there s) o)) ≡ []
place_cases low high s None all = refl
place_cases low high s (Some j) all = early_cells low high s.keys (column_there s j).values all

pub no_cells_before : (q : ℕ) (low high : ℤ) (s : Segment) → AllByRecursion (λ (k : Key). k.time <ℤ low) s.keys → segment_cells_in_range q low high s ≡ []
no_cells_before q low high s all = place_cases low high s (position (λ p. p == q) s.parameters) all
