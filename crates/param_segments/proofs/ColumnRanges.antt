-- The raw numbers of a column are a parameter's where the least and the greatest are.
use Rattle.std.proofs.Common.{◌≡◌, ℕ, ◌≤◌, ℤ, List, [], ◌∷◌, length, map, inl, inr, subst, sym, arith}
use Rattle.std.specs.Prelude.{◌≤ℤ◌, ◌⊎◌, fold}
use Rattle.std.specs.Int.{int_max, int_min}
use Rattle.std.specs.List.{AllByRecursion}
use Rattle.std.proofs.lemmas.Int.{clamps, ints}
use Rattle.mdb_items.specs.Database.{Database}
use Rattle.mdb_items.specs.declared.parameter.Coding.{Coding}
use Rattle.mdb_items.specs.declared.parameter.Coding.TheVariants.{Uint, Int, UintLe, IntLe}
use Rattle.calibration.specs.Admitted.{IsInWidth}
use Rattle.container_extract.specs.declared.values.RawValue.{RawValue}
use Rattle.container_extract.specs.Values.{IsRawValue}
use Rattle.segment_codec.specs.Outline.{range_of}
use Rattle.segment_codec.specs.RawColumn.{IsRawColumn}
use Rattle.segment_codec.specs.Segment.{IsSegment}
use Rattle.segment_codec.specs.declared.segment.Segment.{Segment}
use Rattle.param_segments.specs.RowPlaces.{AreColumnsOf, AreRangesOf, IsColumnOf, IsRangeOf, IsSegmentOf}

-- ---- between two

-- what lies between two raw numbers of a width is one
width_between : (coding : Coding) (bits : ℕ) (low z high : ℤ) → low ≤ℤ z → z ≤ℤ high → IsInWidth coding bits low → IsInWidth coding bits high → IsInWidth coding bits z
width_between Uint bits low z high above below a b = let from = a.0 in let to = b.1 in (omega (arith, ints, above, from), omega (arith, ints, below, to))
width_between Int bits low z high above below a b = let from = a.0 in let to = b.1 in (omega (arith, ints, above, from), omega (arith, ints, below, to))
width_between UintLe bits low z high above below a b = let from = a.0 in let to = b.1 in (omega (arith, ints, above, from), omega (arith, ints, below, to))
width_between IntLe bits low z high above below a b = let from = a.0 in let to = b.1 in (omega (arith, ints, above, from), omega (arith, ints, below, to))

abbrev value_at : ℕ → ℤ → RawValue
value_at parameter raw = record { parameter = parameter; raw = raw }

value_between : (db : Database) (p : ℕ) (low z high : ℤ) → low ≤ℤ z → z ≤ℤ high → IsRawValue db (value_at p low) → IsRawValue db (value_at p high) → IsRawValue db (value_at p z)
value_between db p low z high above below a b = record {
  known = a.known;
  in_width = λ q is. width_between q.coding q.bits low z high above below (a.in_width q is) (b.in_width q is);
}

-- ---- the ends of a column

min_below : (a b : ℤ) → (int_min a b ≤ℤ a) × (int_min a b ≤ℤ b)
min_below a b = (omega (arith, ints, clamps), omega (arith, ints, clamps))

max_above : (a b : ℤ) → (a ≤ℤ int_max a b) × (b ≤ℤ int_max a b)
max_above a b = (omega (arith, ints, clamps), omega (arith, ints, clamps))

up : (x y z : ℤ) → x ≤ℤ y → y ≤ℤ z → x ≤ℤ z
up x y z a b = omega (arith, ints, a, b)

least_below : (v : ℤ) (vs : List ℤ) → (fold int_min v vs ≤ℤ v) × AllByRecursion (λ x. fold int_min v vs ≤ℤ x) vs
least_below v [] = (omega (arith, ints), tt)
least_below v (x ∷ vs) =
    let more = least_below (int_min v x) vs in
    let both = min_below v x in
    (up (fold int_min (int_min v x) vs) (int_min v x) v more.0 both.0, (up (fold int_min (int_min v x) vs) (int_min v x) x more.0 both.1, more.1))

most_above : (v : ℤ) (vs : List ℤ) → (v ≤ℤ fold int_max v vs) × AllByRecursion (λ x. x ≤ℤ fold int_max v vs) vs
most_above v [] = (omega (arith, ints), tt)
most_above v (x ∷ vs) =
    let more = most_above (int_max v x) vs in
    let both = max_above v x in
    (up v (int_max v x) (fold int_max (int_max v x) vs) both.0 more.0, (up x (int_max v x) (fold int_max (int_max v x) vs) both.1 more.0, more.1))

all_between : (db : Database) (p : ℕ) (low high : ℤ) (vs : List ℤ) → IsRawValue db (value_at p low) → IsRawValue db (value_at p high) → AllByRecursion (λ x. low ≤ℤ x) vs → AllByRecursion (λ x. x ≤ℤ high) vs → IsColumnOf db p vs
all_between db p low high [] a b above below = tt
all_between db p low high (v ∷ vs) a b above below = (value_between db p low v high above.0 below.0 a b, all_between db p low high vs a b above.1 below.1)

column_by_range : (db : Database) (p : ℕ) (column : List ℤ) → IsRangeOf db p (range_of column) → IsColumnOf db p column
column_by_range db p [] of = tt
column_by_range db p (v ∷ vs) of =
    let low = least_below v vs in
    let high = most_above v vs in
    all_between db p (fold int_min v vs) (fold int_max v vs) (v ∷ vs) of.0 of.1 (low.0, low.1) (high.0, high.1)

one_of_min : (a b : ℤ) → (int_min a b ≡ a) ⊎ (int_min a b ≡ b)
one_of_min a b = grind (arith, ints, clamps)

one_of_max : (a b : ℤ) → (int_max a b ≡ a) ⊎ (int_max a b ≡ b)
one_of_max a b = grind (arith, ints, clamps)

of_one : (P : ℤ → Type 0) (x a b : ℤ) → (x ≡ a) ⊎ (x ≡ b) → P a → P b → P x
of_one P x a b (inl is) p q = subst P (sym is) p
of_one P x a b (inr is) p q = subst P (sym is) q

least_is_one : (P : ℤ → Type 0) (v : ℤ) (vs : List ℤ) → P v → AllByRecursion P vs → P (fold int_min v vs)
least_is_one P v [] own all = own
least_is_one P v (x ∷ vs) own all = least_is_one P (int_min v x) vs (of_one P (int_min v x) v x (one_of_min v x) own all.0) all.1

most_is_one : (P : ℤ → Type 0) (v : ℤ) (vs : List ℤ) → P v → AllByRecursion P vs → P (fold int_max v vs)
most_is_one P v [] own all = own
most_is_one P v (x ∷ vs) own all = most_is_one P (int_max v x) vs (of_one P (int_max v x) v x (one_of_max v x) own all.0) all.1

range_by_column : (db : Database) (p : ℕ) (column : List ℤ) → 1 ≤ length column → IsColumnOf db p column → IsRangeOf db p (range_of column)
range_by_column db p [] some of = absurd (omega (arith, some))
range_by_column db p (v ∷ vs) some of =
    let P : ℤ → Type 0 = λ z. IsRawValue db (value_at p z) in (least_is_one P v vs of.0 of.1, most_is_one P v vs of.0 of.1)

-- ---- the columns of a segment

columns_of : (db : Database) (ps : List ℕ) (cs : List (List ℤ)) → AreRangesOf db ps (map range_of cs) → AreColumnsOf db ps cs
columns_of db [] cs of = tt
columns_of db (p ∷ ps) [] of = tt
columns_of db (p ∷ ps) (c ∷ cs) of = (column_by_range db p c of.0, columns_of db ps cs of.1)

ranges_of : (db : Database) (rows : ℕ) (ps : List ℕ) (cs : List (List ℤ)) → 1 ≤ rows → AllByRecursion (IsRawColumn rows) cs → AreColumnsOf db ps cs → AreRangesOf db ps (map range_of cs)
ranges_of db rows [] cs some each of = tt
ranges_of db rows (p ∷ ps) [] some each of = tt
ranges_of db rows (p ∷ ps) (c ∷ cs) some each of =
    let len = each.0.0 in
    (range_by_column db p c (omega (arith, some, len)) of.0, ranges_of db rows ps cs some each.1 of.1)

-- the values of a segment are the database's where the ranges of its columns are
pub columns_by_ranges : (db : Database) (s : Segment) → IsSegment s → AreRangesOf db s.parameters (map range_of s.columns) → IsSegmentOf db s
columns_by_ranges db s is of = columns_of db s.parameters s.columns of

pub ranges_by_columns : (db : Database) (s : Segment) → IsSegment s → IsSegmentOf db s → AreRangesOf db s.parameters (map range_of s.columns)
ranges_by_columns db s is of = ranges_of db (length s.keys) s.parameters s.columns is.some_rows is.columns of
