-- The segments of rows of a database have parameters of the database, and there are no more of them than octets.
use Rattle.std.proofs.Common.{◌≡◌, ◌∙◌, ℕ, ℤ, ◌<◌, ◌≤◌, ◌^◌, List, [], ◌∷◌, ◌++◌, length, map, Bool, true, false, refl, ap, arith, length-append, lt-ltb}
use Rattle.std.specs.Prelude.{◌&&◌, filter, flat_map, fold, nat_eq, if◌then◌else◌}
use Rattle.std.specs.Int.{w16, w32}
use Rattle.std.specs.List.{AllByRecursion, list_any}
use lib.Pointwise.{pointwise}
use Rattle.octet_fields.specs.Spelling.{counted, number}
use Rattle.segment_codec.specs.KeyColumn.{key_column}
use Rattle.segment_codec.specs.RawColumn.{raw_column}
use Rattle.segment_codec.specs.Segment.{IsSegment, segment_octets}
use Rattle.segment_codec.specs.declared.segment.Segment.{Segment}
use Rattle.mdb_items.specs.Database.{Database}
use Rattle.container_extract.specs.declared.values.RawValue.{RawValue}
use Rattle.container_extract.specs.Values.{IsRawValue}
use Rattle.param_segments.specs.Cells.{AreValuesOf}
use Rattle.param_segments.specs.Extracted.{IsSetOf}
use Rattle.param_segments.specs.Groups.{group_segments, groups_of, is_of_group, row_pieces, segment_of, set_of, with_group}
use Rattle.param_segments.specs.Octets.{set_octets}
use Rattle.param_segments.specs.RowPlaces.{IsKnownSegment, are_known_parameters}
use Rattle.param_segments.specs.Rows.{SetRow, row_parameters}
use Rattle.param_segments.proofs.Stored.{HasSegments, groups_have_segments}

-- ---- parameters

pub put_last : {X : Type 0} (P : X → Type 0) (xs : List X) (x : X) → AllByRecursion P xs → P x → AllByRecursion P (xs ++ x ∷ [])
put_last P [] x all is = (is, tt)
put_last P (y ∷ ys) x all is = (all.0, put_last P ys x all.1 is)

group_cases : (P : List ℕ → Type 0) (gs : List (List ℕ)) (g : List ℕ) (b : Bool) → AllByRecursion P gs → P g → AllByRecursion P (if b then gs else gs ++ g ∷ [])
group_cases P gs g true all is = all
group_cases P gs g false all is = put_last P gs g all is

-- what holds of the parameters of each row holds of each group
groups_keep : (P : List ℕ → Type 0) (gs : List (List ℕ)) (ts : List SetRow) → AllByRecursion P gs → AllByRecursion (λ t. P (row_parameters t)) ts → AllByRecursion P (fold with_group gs (map row_parameters ts))
groups_keep P gs [] all each = all
groups_keep P gs (t ∷ ts) all each = groups_keep P (with_group gs (row_parameters t)) ts (group_cases P gs (row_parameters t) (list_any (pointwise nat_eq (row_parameters t)) gs) all each.0) each.1

abbrev IsKnownGroup : Database → List ℕ → Type 0
IsKnownGroup db g = are_known_parameters db g ≡ true

known_values : (db : Database) (vs : List RawValue) → AllByRecursion (IsRawValue db) vs → IsKnownGroup db (map (λ v. v.parameter) vs)
known_values db [] all = refl
known_values db (v ∷ vs) all =
    ap (λ (b : Bool). b && are_known_parameters db (map (λ w. w.parameter) vs)) (lt-ltb v.parameter (length db.parameters) all.0.known) ∙ known_values db vs all.1

known_rows : (db : Database) (ts : List SetRow) → AreValuesOf db ts → AllByRecursion (λ t. IsKnownGroup db (row_parameters t)) ts
known_rows db [] all = tt
known_rows db (t ∷ ts) all = (known_values db t.values all.0, known_rows db ts all.1)

group_known : (db : Database) (g : List ℕ) (ps : List (List SetRow)) → IsKnownGroup db g → AllByRecursion IsSegment (map (segment_of g) ps) → AllByRecursion (IsKnownSegment db) (map (segment_of g) ps)
group_known db g [] is all = tt
group_known db g (p ∷ ps) is all = ((all.0, is), group_known db g ps is all.1)

join_known : (db : Database) (xs ys : List Segment) → AllByRecursion (IsKnownSegment db) xs → AllByRecursion (IsKnownSegment db) ys → AllByRecursion (IsKnownSegment db) (xs ++ ys)
join_known db [] ys all more = more
join_known db (x ∷ xs) ys all more = (all.0, join_known db xs ys all.1 more)

known_over : (db : Database) (ts : List SetRow) (gs : List (List ℕ)) → AllByRecursion (IsKnownGroup db) gs → AllByRecursion (HasSegments ts) gs → AllByRecursion (IsKnownSegment db) (flat_map (group_segments ts) gs)
known_over db ts [] known all = tt
known_over db ts (g ∷ gs) known all =
    join_known db (group_segments ts g) (flat_map (group_segments ts) gs) (group_known db g (row_pieces (filter (is_of_group g) ts)) known.0 all.0) (known_over db ts gs known.1 all.1)

-- the segments of a set of a database are known ones
pub known_segments : (db : Database) (e : ℕ) (n : ℤ) (ts : List SetRow) → IsSetOf db e n ts → AllByRecursion (IsKnownSegment db) (set_of ts)
known_segments db e n ts is = known_over db ts (groups_of ts) (groups_keep (IsKnownGroup db) [] ts tt (known_rows db ts is.values)) (groups_have_segments ts is.rows)

-- ---- their number

two_octets : (n : ℕ) → length (number w16 n) ≡ 2
unfolding number
two_octets n = refl

some_octets : (s : Segment) → 1 ≤ length (segment_octets s)
unfolding segment_octets counted
some_octets s =
    let ps = s.parameters in
    let count = two_octets (length ps) in
    let inner = length-append (number w16 (length ps)) (flat_map (number w16) ps) in
    let outer = length-append (number w16 (length ps) ++ flat_map (number w16) ps) (number w16 (length s.keys) ++ (key_column s.keys ++ flat_map raw_column s.columns)) in
    omega (arith, count, inner, outer)

no_more : (ss : List Segment) → length ss ≤ length (flat_map segment_octets ss)
no_more [] = omega arith
no_more (s ∷ ss) =
    let own = some_octets s in
    let joined = length-append (segment_octets s) (flat_map segment_octets ss) in
    let rest = no_more ss in
    omega (arith, own, joined, rest)

-- fewer octets than 2^32 have fewer segments
pub few_segments : (ts : List SetRow) (octets : List ℕ) → length octets < 2 ^ 32 → octets ≡ set_octets ts → length (set_of ts) < 2 ^ 32
unfolding set_octets counted
few_segments ts octets few is =
    let ss = set_of ts in
    let whole = length-append (number w32 (length ss)) (flat_map segment_octets ss) in
    let len : length octets ≡ length (number w32 (length ss) ++ flat_map segment_octets ss) = ap length is in
    let most = no_more ss in
    omega (arith, whole, len, most, few)

-- the octets are a count of the segments, and these
pub spelled_as_counted : (ts : List SetRow) → set_octets ts ≡ counted w32 segment_octets (set_of ts)
unfolding set_octets
spelled_as_counted ts = refl
