-- Segments that are a run of each group of their rows are those of the set of these rows, and the other way round.
use Rattle.std.proofs.Common.{◌≡◌, ◌∙◌, ◌<◌, ◌^◌, ℕ, ℤ, [], ◌∷◌, ◌++◌, List, Some, ap, length, map, refl, sym, subst}
use Rattle.std.specs.Prelude.{flat_map}
use Rattle.std.specs.Int.{w32}
use Rattle.std.specs.List.{AllByRecursion}
use Rattle.std.specs.List.Sorted.{IsPermutation, IsSortedBy, IsStrictlySortedBy}
use Rattle.std.proofs.lemmas.List.Elements.{All-from_recursion, recursion_from_All}
use Rattle.std.proofs.lemmas.List.Sorted.{All-permutation, IsPermutation-sym}
use Rattle.arch_types.specs.declared.key.Key.{Key}
use Rattle.arch_types.specs.Order.{key_cmp}
use Rattle.intervals.specs.Interval.{interval_of}
use Rattle.mdb_items.specs.Database.{Database}
use Rattle.octet_fields.specs.Spelling.{counted}
use Rattle.arch_types.proofs.InOrder.{order_same}
use Rattle.segment_codec.specs.Segment.{IsSegment, segment_octets}
use Rattle.segment_codec.specs.declared.segment.Segment.{Segment}
use Rattle.container_extract.specs.Values.{IsRawValue}
use Rattle.param_segments.specs.Cells.{AreValuesOf}
use Rattle.param_segments.specs.Extracted.{IsSetOf}
use Rattle.param_segments.specs.Groups.{groups_of, set_of}
use Rattle.param_segments.specs.Laws.{SegmentsAreOfASet}
use Rattle.param_segments.specs.Octets.{IsSpelledSet, rows_in_octets, set_octets, starts_from}
use Rattle.param_segments.specs.RowPlaces.{IsInside, IsSegmentOf, RowPlace, placed_row, places_from}
use Rattle.param_segments.specs.Rows.{AreSetRows, IsSetRow, SetRow, is_earlier}
use Rattle.param_segments.specs.Runs.{AreRuns, AreRunsOf, Run, count_in_order, place_group, run_segments}
use Rattle.param_segments.specs.Segments.{column_tail, rows_from, rows_of_segment, rows_of_segments}
use Rattle.param_segments.specs.SetSegments.{AreSetSegments}
use Rattle.param_segments.proofs.Grouped.{groups_distinct, rising_rows, rows_again_in_order}
use Rattle.param_segments.proofs.Known.{spelled_as_counted}
use Rattle.param_segments.proofs.Placed.{is_place_earlier, places_inside, rise_as_rows, rows_again_sorted, rows_at_places, sorted_inside}
use Rattle.param_segments.proofs.SegmentValues.{placed_values}
use Rattle.param_segments.proofs.SetAgain.{HasRuns, each_placed, nothing_in, placed_rows_are, runs_again, runs_in, runs_sorted, set_again}
use Rattle.param_segments.proofs.SetRuns.{back_of, front_of, set_has_runs}
use Rattle.param_segments.proofs.Stored.{read_again, set_is_segments, spelled_set}

rows_each : (segments : List Segment) → AllByRecursion IsSegment segments → AllByRecursion IsSetRow (flat_map rows_of_segment segments)
rows_each segments each = subst (AllByRecursion IsSetRow) (rows_at_places segments) (each_placed segments (places_from 0 segments) each (places_inside segments each))

-- of all that are put in order
ordered_each : (rows ordered : List SetRow) → IsPermutation rows ordered → AllByRecursion IsSetRow rows → AllByRecursion IsSetRow ordered
ordered_each rows ordered same each = recursion_from_All IsSetRow ordered (All-permutation IsSetRow rows ordered same (All-from_recursion IsSetRow rows each))

pub set_of_segments : (segments : List Segment) → AreSetSegments segments → AreSetRows (rows_of_segments segments) × (set_of (rows_of_segments segments) ≡ segments)
set_of_segments segments are =
    let mixed = flat_map rows_of_segment segments in
    let rows = rows_of_segments segments in
    let gs = groups_of rows in
    let runs = are.runs.0 in
    let same : IsPermutation mixed rows = order_same is_earlier mixed in
    let each : AllByRecursion IsSegment (flat_map run_segments runs) = subst (AllByRecursion IsSegment) (sym are.runs.2) are.each in
    let in_mixed : HasRuns mixed gs runs =
    subst (λ (ss : List Segment). HasRuns (flat_map rows_of_segment ss) gs runs) are.runs.2 (runs_in [] gs runs (groups_distinct rows) (nothing_in gs) are.runs.1 each) in
    let in_rows = runs_sorted mixed rows gs runs (rising_rows rows are.rising) same are.runs.1 in_mixed in
    (record { each = ordered_each mixed rows same (rows_each segments are.each); rising = are.rising }, runs_again rows gs runs are.runs.1 in_rows each ∙ are.runs.2)

pub segments_of_set : (rows : List SetRow) → AreSetRows rows → AreSetSegments (set_of rows)
segments_of_set rows are =
    let again = sym (rows_again_in_order rows are) in
    record {
      each = set_is_segments rows are;
      rising = subst (λ (ts : List SetRow). IsStrictlySortedBy key_cmp (map (λ (t : SetRow). t.key) ts)) again are.rising;
      runs = subst (λ (ts : List SetRow). (runs : List Run) × AreRunsOf (groups_of ts) runs × (flat_map run_segments runs ≡ set_of rows)) again (set_has_runs rows are);
    }

pub segments_are_of_a_set : SegmentsAreOfASet
segments_are_of_a_set segments = (
  λ are. let of = set_of_segments segments are in (rows_of_segments segments, of.0, of.1),
  λ of. subst AreSetSegments of.2 (segments_of_set of.0 of.1),
)

-- ---- segments whose keys were put in order

-- the keys of a set's segments rise, at places in their order
pub places_rise : (segments : List Segment) (places : List RowPlace) → AreSetSegments segments → IsPermutation (places_from 0 segments) places → IsSortedBy is_place_earlier places → IsStrictlySortedBy key_cmp (map (λ (p : RowPlace). p.key) places)
places_rise segments places are same up =
    let of = set_of_segments segments are in
    let rows = rows_of_segments segments in
    rise_as_rows segments places rows (rows_again_sorted segments rows (places_from 0 segments) places of.0 (sym of.1) refl same up) of.0.rising

-- segments are those of a set where their keys rise and their groups come in order
pub are_of_set : (segments : List Segment) (places : List RowPlace) (gs : List (List ℕ)) (numbers : List ℕ) → AllByRecursion IsSegment segments → IsPermutation (places_from 0 segments) places →
    IsStrictlySortedBy key_cmp (map (λ (p : RowPlace). p.key) places) → AreRuns segments gs numbers → count_in_order 0 (map (place_group numbers) places) ≡ Some (length gs) → AreSetSegments segments
are_of_set segments places gs numbers sound same up runs order =
    let placed = sorted_inside segments (places_from 0 segments) places sound refl same in
    let rows = map (placed_row segments) places in
    subst AreSetSegments (set_again segments places gs numbers sound placed same up runs order) (segments_of_set rows (placed_rows_are segments places sound placed up))

-- ---- the set of segments

-- octets of segments that are those of a set spell their rows
pub spelled_rows : (segments : List Segment) (octets starts : List ℕ) → AreSetSegments segments → length segments < 2 ^ 32 → octets ≡ counted w32 segment_octets segments → starts ≡ starts_from 4 segments →
    IsSpelledSet octets starts × (rows_in_octets octets ≡ rows_of_segments segments)
spelled_rows segments octets starts are few whole begins =
    let of = set_of_segments segments are in
    let rows = rows_of_segments segments in
    let short : length (set_of rows) < 2 ^ 32 = subst (λ (ss : List Segment). length ss < 2 ^ 32) (sym of.1) few in
    let spelled : octets ≡ set_octets rows = whole ∙ ap (counted w32 segment_octets) (sym of.1) ∙ sym (spelled_as_counted rows) in
    (spelled_set rows octets starts of.0 short spelled (begins ∙ ap (starts_from 4) (sym of.1)), ap rows_in_octets spelled ∙ read_again rows of.0 short)

-- what holds of the rows of segments holds of them in order
in_order : (P : SetRow → Type 0) (segments : List Segment) → AllByRecursion P (flat_map rows_of_segment segments) → AllByRecursion P (rows_of_segments segments)
in_order P segments all =
    let mixed = flat_map rows_of_segment segments in
    recursion_from_All P (rows_of_segments segments) (All-permutation P mixed (rows_of_segments segments) (order_same is_earlier mixed) (All-from_recursion P mixed all))

back_in_segments : (P : SetRow → Type 0) (segments : List Segment) → AllByRecursion P (rows_of_segments segments) → AllByRecursion P (flat_map rows_of_segment segments)
back_in_segments P segments all =
    let mixed = flat_map rows_of_segment segments in
    recursion_from_All P mixed (All-permutation P (rows_of_segments segments) mixed (IsPermutation-sym mixed (rows_of_segments segments) (order_same is_earlier mixed)) (All-from_recursion P (rows_of_segments segments) all))

abbrev IsRowIn : ℕ → ℤ → SetRow → Type 0
IsRowIn e i row = interval_of e row.key.time ≡ i

rows_in : (e : ℕ) (i : ℤ) (ps : List ℕ) (keys : List Key) (columns : List (List ℤ)) → AllByRecursion (λ (k : Key). interval_of e k.time ≡ i) keys → AllByRecursion (IsRowIn e i) (rows_from ps keys columns)
rows_in e i ps [] columns all = tt
rows_in e i ps (k ∷ ks) columns all = (all.0, rows_in e i ps ks (map column_tail columns) all.1)

keys_in : (e : ℕ) (i : ℤ) (ps : List ℕ) (keys : List Key) (columns : List (List ℤ)) → AllByRecursion (IsRowIn e i) (rows_from ps keys columns) → AllByRecursion (λ (k : Key). interval_of e k.time ≡ i) keys
keys_in e i ps [] columns all = tt
keys_in e i ps (k ∷ ks) columns all = (all.0, keys_in e i ps ks (map column_tail columns) all.1)

join_rows : (P : SetRow → Type 0) (xs ys : List SetRow) → AllByRecursion P xs → AllByRecursion P ys → AllByRecursion P (xs ++ ys)
join_rows P [] ys all more = more
join_rows P (x ∷ xs) ys all more = (all.0, join_rows P xs ys all.1 more)

all_rows_in : (e : ℕ) (i : ℤ) (segments : List Segment) → AllByRecursion (IsInside e i) segments → AllByRecursion (IsRowIn e i) (flat_map rows_of_segment segments)
all_rows_in e i [] all = tt
all_rows_in e i (s ∷ ss) all = join_rows (IsRowIn e i) (rows_of_segment s) (flat_map rows_of_segment ss) (rows_in e i s.parameters s.keys s.columns all.0) (all_rows_in e i ss all.1)

all_keys_in : (e : ℕ) (i : ℤ) (segments : List Segment) → AllByRecursion (IsRowIn e i) (flat_map rows_of_segment segments) → AllByRecursion (IsInside e i) segments
all_keys_in e i [] all = tt
all_keys_in e i (s ∷ ss) all = (
  keys_in e i s.parameters s.keys s.columns (front_of (IsRowIn e i) (rows_of_segment s) (flat_map rows_of_segment ss) all),
  all_keys_in e i ss (back_of (IsRowIn e i) (rows_of_segment s) (flat_map rows_of_segment ss) all),
)

-- the times of a set's segments are in its interval
pub set_inside : (db : Database) (e : ℕ) (i : ℤ) (rows : List SetRow) → IsSetOf db e i rows → AllByRecursion (IsInside e i) (set_of rows)
set_inside db e i rows is = all_keys_in e i (set_of rows) (back_in_segments (IsRowIn e i) (set_of rows) (subst (AllByRecursion (IsRowIn e i)) (sym (rows_again_in_order rows is.rows)) is.inside))

-- the rows of segments are a set of the interval and the database
pub rows_are_set : (db : Database) (e : ℕ) (i : ℤ) (segments : List Segment) → AreSetSegments segments → AllByRecursion (IsSegmentOf db) segments → AllByRecursion (IsInside e i) segments → IsSetOf db e i (rows_of_segments segments)
rows_are_set db e i segments are values inside =
    let places = places_from 0 segments in
    let valued : AreValuesOf db (flat_map rows_of_segment segments) = subst (AreValuesOf db) (rows_at_places segments) (placed_values db segments places are.each values (places_inside segments are.each)) in
    record {
      rows = (set_of_segments segments are).0;
      inside = in_order (IsRowIn e i) segments (all_rows_in e i segments inside);
      values = in_order (λ (row : SetRow). AllByRecursion (IsRawValue db) row.values) segments valued;
    }
