-- Segments have values of a database where their rows have them, and the other way.
use Rattle.std.proofs.Common.{◌≡◌, ℕ, zero, suc, pos, ◌<◌, ℤ, List, [], ◌∷◌, ◌++◌, length, map, sym, subst}
use Rattle.std.specs.Prelude.{filter, flat_map, replicate}
use Rattle.std.specs.List.{AllByRecursion}
use Rattle.segment_codec.specs.Segment.{IsSegment}
use Rattle.segment_codec.specs.declared.segment.Segment.{Segment}
use Rattle.mdb_items.specs.Database.{Database}
use Rattle.container_extract.specs.declared.values.RawValue.{RawValue}
use Rattle.container_extract.specs.Values.{IsRawValue}
use Rattle.param_segments.specs.RowPlaces.{RowPlace}
use Rattle.param_segments.specs.Cells.{AreValuesOf}
use Rattle.param_segments.specs.Groups.{group_segments, groups_of, is_of_group, raw_columns, row_pieces, segment_of, set_of, with_raws}
use Rattle.param_segments.specs.RowPlaces.{AreColumnsOf, IsRowPlace, IsSegmentOf, numbered_segment, placed_row, values_in_row}
use Rattle.param_segments.specs.Rows.{SetRow, row_parameters, row_raws}
use Rattle.param_segments.proofs.Decoded.{each_at}
use Rattle.param_segments.proofs.Grouped.{filter_of}
use Rattle.param_segments.proofs.Inverse.{AreOf, flat, pieces_joined, split_left}
use Rattle.param_segments.proofs.Placed.{row_in_columns}
use Rattle.param_segments.proofs.Stored.{keep}

-- ---- of rows, and so of segments

row_more : (db : Database) (vs : List RawValue) (cs : List (List ℤ)) → AllByRecursion (IsRawValue db) vs → AreColumnsOf db (map (λ v. v.parameter) vs) cs → AreColumnsOf db (map (λ v. v.parameter) vs) (with_raws (map (λ v. v.raw) vs) cs)
row_more db [] cs all of = tt
row_more db (v ∷ vs) [] all of = tt
row_more db (v ∷ vs) (c ∷ cs) all of = ((all.0, of.0), row_more db vs cs all.1 of.1)

no_rows : (db : Database) (g : List ℕ) (n : ℕ) → AreColumnsOf db g (replicate {A = List ℤ} n [])
no_rows db [] n = tt
no_rows db (p ∷ ps) zero = tt
no_rows db (p ∷ ps) (suc n) = (tt, no_rows db ps n)

columns_of_rows : (db : Database) (g : List ℕ) (ts : List SetRow) → AreOf g ts → AreValuesOf db ts → AreColumnsOf db g (raw_columns (length g) ts)
columns_of_rows db g [] are all = no_rows db g (length g)
columns_of_rows db g (t ∷ ts) are all =
    let cs = raw_columns (length g) ts in
    let so_far = subst (λ (ps : List ℕ). AreColumnsOf db ps cs) (sym are.0) (columns_of_rows db g ts are.1 all.1) in
    subst (λ (ps : List ℕ). AreColumnsOf db ps (with_raws (row_raws t) cs)) are.0 (row_more db t.values cs all.0 so_far)

pieces_of_values : (db : Database) (g : List ℕ) (ps : List (List SetRow)) → AreOf g (flat ps) → AreValuesOf db (flat ps) → AllByRecursion (IsSegmentOf db) (map (segment_of g) ps)
pieces_of_values db g [] are all = tt
pieces_of_values db g (p ∷ ps) are all =
    let own = split_left (λ t. row_parameters t ≡ g) p (flat ps) are in
    let values = split_left (λ t. AllByRecursion (IsRawValue db) t.values) p (flat ps) all in
    (columns_of_rows db g p own.0 values.0, pieces_of_values db g ps own.1 values.1)

group_of_values : (db : Database) (ts : List SetRow) (g : List ℕ) → AreValuesOf db ts → AllByRecursion (IsSegmentOf db) (group_segments ts g)
group_of_values db ts g all =
    let rows = filter (is_of_group g) ts in
    let joined = sym (pieces_joined rows) in
    pieces_of_values db g (row_pieces rows) (subst (AreOf g) joined (filter_of g ts)) (subst (AreValuesOf db) joined (keep (λ t. AllByRecursion (IsRawValue db) t.values) (is_of_group g) ts all))

join : (db : Database) (xs ys : List Segment) → AllByRecursion (IsSegmentOf db) xs → AllByRecursion (IsSegmentOf db) ys → AllByRecursion (IsSegmentOf db) (xs ++ ys)
join db [] ys all more = more
join db (x ∷ xs) ys all more = (all.0, join db xs ys all.1 more)

groups_of_values : (db : Database) (ts : List SetRow) (gs : List (List ℕ)) → AreValuesOf db ts → AllByRecursion (IsSegmentOf db) (flat_map (group_segments ts) gs)
groups_of_values db ts [] all = tt
groups_of_values db ts (g ∷ gs) all = join db (group_segments ts g) (flat_map (group_segments ts) gs) (group_of_values db ts g all) (groups_of_values db ts gs all)

-- the segments of rows of a database's values have such values
pub set_of_values : (db : Database) (ts : List SetRow) → AreValuesOf db ts → AllByRecursion (IsSegmentOf db) (set_of ts)
set_of_values db ts all = groups_of_values db ts (groups_of ts) all

-- ---- of segments, and so of rows

values_in : (db : Database) (row : ℕ) (ps : List ℕ) (cs : List (List ℤ)) → AllByRecursion (λ c. row < length c) cs → AreColumnsOf db ps cs → AllByRecursion (IsRawValue db) (values_in_row row ps cs)
values_in db row [] cs long of = tt
values_in db row (p ∷ ps) [] long of = tt
values_in db row (p ∷ ps) (c ∷ cs) long of =
    (each_at (λ raw. IsRawValue db (record { parameter = p; raw = raw })) c row (pos 0) of.0 long.0, values_in db row ps cs long.1 of.1)

-- the rows at places of segments of a database's values have such values
pub placed_values : (db : Database) (segments : List Segment) (places : List RowPlace) → AllByRecursion IsSegment segments → AllByRecursion (IsSegmentOf db) segments → AllByRecursion (IsRowPlace segments) places → AreValuesOf db (map (placed_row segments) places)
placed_values db segments [] all of placed = tt
placed_values db segments (p ∷ ps) all of placed =
    let s = numbered_segment segments p.segment in
    let own = each_at (IsSegmentOf db) segments p.segment (segment_of [] []) of placed.0.segment in
    (values_in db p.row s.parameters s.columns (row_in_columns segments p all placed.0) own, placed_values db segments ps all of placed.1)
