-- What reading a set back rests on.
use Rattle.std.proofs.Common.{◌≡◌, ℕ, ◌<◌, ◌≤◌, List, [], ◌∷◌, ◌++◌, length, Bool, true, false, eqb, refl, subst, arith, length-append}
use Rattle.std.specs.Prelude.{fold, flat_map, if◌then◌else◌}
use Rattle.std.specs.List.{AllByRecursion}
use Rattle.std.specs.List.Sorted.{IsPermutation, IsSortedBy}
use Rattle.std.proofs.lemmas.Bool.{eqb-true}
use Rattle.std.proofs.lemmas.List.Sorted.{IsPermutation-sym}
use Rattle.arch_types.proofs.InOrder.{order_same}
use Rattle.param_segments.proofs.Grouped.{rows_again_in_order}
use Rattle.param_segments.proofs.Sorting.{sorted_is}
use Rattle.param_segments.specs.Rows.{SetRow, AreSetRows, is_earlier}
use Rattle.param_segments.specs.Groups.{Pieces, with_next_row, cut_rows, row_pieces, set_of}
use Rattle.param_segments.specs.Segments.{rows_of_segment}

-- the rows of the segments, sorted by key, are the rows of the set
pub rows_sorted : (d : SetRow) (ts sorted : List SetRow) → AreSetRows ts → IsPermutation (flat_map rows_of_segment (set_of ts)) sorted → IsSortedBy is_earlier sorted → sorted ≡ ts
rows_sorted d ts sorted are same up =
    let mixed = flat_map rows_of_segment (set_of ts) in
    let whole : IsPermutation mixed ts = subst (IsPermutation mixed) (rows_again_in_order ts are) (order_same is_earlier mixed) in
    sorted_is (λ (t : SetRow). t.key) d ts mixed sorted are.rising (IsPermutation-sym mixed ts whole) same up

-- ---- pieces

abbrev pub IsPiece : List SetRow → Type 0
IsPiece p = (1 ≤ length p) × (length p ≤ 4096)

-- each full piece has 4,096 rows, and the last as many at most, and one at least once there is a row
record ArePieces (p : Pieces) : Type 0 where
  full : AllByRecursion (λ q. length q ≡ 4096) p.full
  last : length p.last ≤ 4096

join_full : (xs : List (List SetRow)) (y : List SetRow) → AllByRecursion (λ q. length q ≡ 4096) xs → length y ≡ 4096 → AllByRecursion (λ q. length q ≡ 4096) (xs ++ y ∷ [])
join_full [] y all e = (e, tt)
join_full (x ∷ xs) y all e = (all.0, join_full xs y all.1 e)

row_cases : (p : Pieces) (t : SetRow) (b : Bool) → eqb (length p.last) 4096 ≡ b → ArePieces p →
    (let q : Pieces = if b then record { full = p.full ++ p.last ∷ []; last = t ∷ [] } else record { full = p.full; last = p.last ++ t ∷ [] } in ArePieces q × (1 ≤ length q.last))
row_cases p t true e are = (record { full = join_full p.full p.last are.full (eqb-true _ _ e); last = omega arith }, omega arith)
row_cases p t false e are =
    let len = length-append p.last (t ∷ []) in
    let few = are.last in
    let short : length p.last < 4096 = below (length p.last) few e in
    (record { full = are.full; last = omega (arith, len, short) }, omega (arith, len))
  where
    below : (n : ℕ) → n ≤ 4096 → eqb n 4096 ≡ false → n < 4096
    below n le f = grind arith

cut_from : (p : Pieces) (rows : List SetRow) → ArePieces p → 1 ≤ length p.last → ArePieces (fold with_next_row p rows) × (1 ≤ length (fold with_next_row p rows).last)
cut_from p [] are some = (are, some)
cut_from p (t ∷ ts) are some = let next = row_cases p t (eqb (length p.last) 4096) refl are in cut_from (with_next_row p t) ts next.0 next.1

all_pieces : (xs : List (List SetRow)) (y : List SetRow) → AllByRecursion (λ q. length q ≡ 4096) xs → IsPiece y → AllByRecursion IsPiece (xs ++ y ∷ [])
all_pieces [] y all is = (is, tt)
all_pieces (x ∷ xs) y all is = let e = all.0 in ((omega arith, omega arith), all_pieces xs y all.1 is)

pub are_pieces : (rows : List SetRow) → 0 < length rows → AllByRecursion IsPiece (row_pieces rows)
are_pieces [] some = absurd (omega arith)
are_pieces (t ∷ ts) some =
    let start : ArePieces (record { full = []; last = [] }) = record { full = tt; last = omega arith } in
    let first = row_cases (record { full = []; last = [] }) t (eqb 0 4096) refl start in
    let all = cut_from (with_next_row (record { full = []; last = [] }) t) ts first.0 first.1 in
    all_pieces (cut_rows (t ∷ ts)).full (cut_rows (t ∷ ts)).last all.0.full (all.1, all.0.last)

-- all but the last piece are full
pub full_pieces : (rows : List SetRow) → AllByRecursion (λ q. length q ≡ 4096) (cut_rows rows).full
full_pieces [] = tt
full_pieces (t ∷ ts) =
    let start : ArePieces (record { full = []; last = [] }) = record { full = tt; last = omega arith } in
    let first = row_cases (record { full = []; last = [] }) t (eqb 0 4096) refl start in
    (cut_from (with_next_row (record { full = []; last = [] }) t) ts first.0 first.1).0.full
