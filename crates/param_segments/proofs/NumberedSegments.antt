-- The rows of one segment of a set.
use Rattle.std.proofs.Common.{◌≡◌, ℕ, zero, suc, ◌<◌, List, [], ◌∷◌, ◌++◌, length, map, get_or, sym, subst, arith}
use Rattle.std.specs.Prelude.{filter, flat_map}
use Rattle.std.specs.List.{AllByRecursion}
use Rattle.segment_codec.specs.declared.segment.Segment.{Segment}
use Rattle.mdb_items.specs.Database.{Database}
use Rattle.container_extract.specs.Values.{IsRawValue}
use Rattle.param_segments.specs.Cells.{AreValuesOf}
use Rattle.param_segments.specs.Octets.{rows_of_numbered_segment}
use Rattle.param_segments.specs.Groups.{group_segments, groups_of, is_of_group, row_pieces, segment_of, set_of}
use Rattle.param_segments.specs.Rows.{SetRow, row_parameters}
use Rattle.param_segments.specs.Segments.{rows_of_segment}
use Rattle.param_segments.proofs.Grouped.{filter_of}
use Rattle.param_segments.proofs.Inverse.{AreOf, flat, pieces_joined, rows_again, split_left}
use Rattle.param_segments.proofs.Stored.{keep}

module _ (P : SetRow → Type 0) where
  -- what holds of the rows of a segment
  abbrev pub HoldsIn : Segment → Type 0
  HoldsIn s = AllByRecursion P (rows_of_segment s)

  pieces_hold : (g : List ℕ) (ps : List (List SetRow)) → AreOf g (flat ps) → AllByRecursion P (flat ps) → AllByRecursion HoldsIn (map (segment_of g) ps)
  pieces_hold g [] of all = tt
  pieces_hold g (p ∷ ps) of all =
      let o = split_left (λ t. row_parameters t ≡ g) p (flat ps) of in
      let a = split_left P p (flat ps) all in
      (subst (AllByRecursion P) (sym (rows_again g p o.0)) a.0, pieces_hold g ps o.1 a.1)

  group_holds : (ts : List SetRow) (g : List ℕ) → AllByRecursion P ts → AllByRecursion HoldsIn (group_segments ts g)
  group_holds ts g all =
      let rows = filter (is_of_group g) ts in
      let j = sym (pieces_joined rows) in
      pieces_hold g (row_pieces rows) (subst (AreOf g) j (filter_of g ts)) (subst (AllByRecursion P) j (keep P (is_of_group g) ts all))

  join_holds : (xs ys : List Segment) → AllByRecursion HoldsIn xs → AllByRecursion HoldsIn ys → AllByRecursion HoldsIn (xs ++ ys)
  join_holds [] ys all more = more
  join_holds (x ∷ xs) ys all more = (all.0, join_holds xs ys all.1 more)

  groups_hold : (ts : List SetRow) (gs : List (List ℕ)) → AllByRecursion P ts → AllByRecursion HoldsIn (flat_map (group_segments ts) gs)
  groups_hold ts [] all = tt
  groups_hold ts (g ∷ gs) all = join_holds (group_segments ts g) (flat_map (group_segments ts) gs) (group_holds ts g all) (groups_hold ts gs all)

  -- what holds of the rows of a set holds of the rows of each of its segments
  pub segments_hold : (ts : List SetRow) → AllByRecursion P ts → AllByRecursion HoldsIn (set_of ts)
  segments_hold ts all = groups_hold ts (groups_of ts) all

pub all_get : {X : Type 0} (P : X → Type 0) (xs : List X) (i : ℕ) (d : X) → AllByRecursion P xs → i < length xs → P (get_or xs i d)
all_get P [] i d all lt = absurd (omega arith)
all_get P (x ∷ xs) zero d all lt = all.0
all_get P (x ∷ xs) (suc i) d all lt = all_get P xs i d all.1 (omega arith)

-- the values of the rows of a segment are of the database that those of the set are of
pub segment_values : (db : Database) (rows : List SetRow) (i : ℕ) → AreValuesOf db rows → i < length (set_of rows) → AreValuesOf db (rows_of_numbered_segment rows i)
segment_values db rows i all lt =
    let P : SetRow → Type 0 = λ row. AllByRecursion (IsRawValue db) row.values in
    all_get (HoldsIn P) (set_of rows) i (segment_of [] []) (segments_hold P rows all) lt
