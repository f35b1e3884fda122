-- Ordered rows: parts of them, and parts put together.
use Rattle.std.proofs.Common.{◌≡◌, ℤ, ℕ, Bool, true, List, [], ◌∷◌, ◌++◌, Option, Some, None, refl, sym, ap, ◌∙◌, arith}
use Rattle.std.specs.Prelude.{◌&&◌, ◌==◌}
use Rattle.std.specs.Ordering.{int_eq, is_lt}
use Rattle.std.proofs.lemmas.Bool.Decides.{nat_tests}
use Rattle.std.proofs.lemmas.Int.{ints}
use Rattle.arch_types.specs.declared.row.Row.{Row}
use Rattle.arch_types.specs.declared.key.Key.{Key}
use Rattle.arch_types.specs.Order.{key_cmp}
use Rattle.run_pages.specs.Placed.{Placed, rows_of_placed}
use Rattle.run_pages.specs.Order.{are_ordered, follows, is_same_key}
use Rattle.run_pages.specs.Runs.{first_row_key}
use Rattle.run_pages.proofs.Joins.{both_true}

-- ---- keys

pub same_key : (key : Key) → is_same_key key key ≡ true
same_key key =
    let time : int_eq key.time key.time ≡ true = grind (arith, ints) in
    let seq : (key.seq == key.seq) ≡ true = grind (arith, nat_tests) in
    rw (time, seq) refl

pub eq_true : (a b : ℕ) → (a == b) ≡ true → a ≡ b
eq_true a b e = grind (arith, nat_tests, e)

pub same_key_is : (a b : Key) → is_same_key a b ≡ true → a ≡ b
same_key_is a b e =
    let t = both_true (int_eq a.time b.time) _ e in
    let time : a.time ≡ b.time = grind (arith, ints, t.0) in
    let seq : a.seq ≡ b.seq = eq_true a.seq b.seq t.1 in
    let by_time : (time : ℤ) → Key = λ time. record { time = time; seq = a.seq } in
    let by_seq : (seq : ℕ) → Key = λ seq. record { time = b.time; seq = seq } in
    ap by_time time ∙ ap by_seq seq

-- ---- parts

-- behind a row the first key tells nothing
pub other_first : (table : ℕ) (first other : Key) (next : Option Key) (last : Key) (rows : List Row) → are_ordered table first next (Some last) rows ≡ are_ordered table other next (Some last) rows
other_first table first other next last [] = refl
other_first table first other next last (row ∷ rows) = ap (λ (b : Bool). (row.table == table) && (follows first (Some last) row.key && b)) (other_first table first other next row.key rows)

-- ordered rows are a front below the first key of the others, and these
split_behind : (table : ℕ) (first last : Key) (front : List Row) (row : Row) (rows : List Row) → are_ordered table first None (Some last) (front ++ row ∷ rows) ≡ true
    → (are_ordered table first (Some row.key) (Some last) front ≡ true) × (are_ordered table row.key None None (row ∷ rows) ≡ true)
split_behind table first last [] row rows e =
    let a = both_true (row.table == table) _ e in
    let b = both_true (follows first (Some last) row.key) _ a.1 in
    (b.0, rw (a.0, same_key row.key, other_first table row.key first None row.key rows) b.1)
split_behind table first last (x ∷ front) row rows e =
    let a = both_true (x.table == table) _ e in
    let b = both_true (follows first (Some last) x.key) _ a.1 in
    let more = split_behind table first x.key front row rows b.1 in
    (rw (a.0, b.0, more.0) refl, more.1)

pub split_ordered : (table : ℕ) (first : Key) (x : Row) (front : List Row) (row : Row) (rows : List Row) → are_ordered table first None None (x ∷ front ++ row ∷ rows) ≡ true
    → (are_ordered table first (Some row.key) None (x ∷ front) ≡ true) × (are_ordered table row.key None None (row ∷ rows) ≡ true)
split_ordered table first x front row rows e =
    let a = both_true (x.table == table) _ e in
    let b = both_true (follows first None x.key) _ a.1 in
    let more = split_behind table first x.key front row rows b.1 in
    (rw (a.0, b.0, more.0) refl, more.1)

-- ---- put together

join_behind : (table : ℕ) (first last next : Key) (front back : List Row) → are_ordered table first (Some next) (Some last) front ≡ true → are_ordered table next None None back ≡ true
    → are_ordered table first None (Some last) (front ++ back) ≡ true
join_behind table first last next [] [] e more = absurd cc
join_behind table first last next [] (row ∷ rows) e more =
    let a = both_true (row.table == table) _ more in
    let b = both_true (is_same_key row.key next) _ a.1 in
    let same : row.key ≡ next = same_key_is row.key next b.0 in
    let above : is_lt (key_cmp last row.key) ≡ true = rw same e in
    rw (a.0, above, other_first table first next None row.key rows) b.1
join_behind table first last next (x ∷ front) back e more =
    let a = both_true (x.table == table) _ e in
    let b = both_true (follows first (Some last) x.key) _ a.1 in
    rw (a.0, b.0, join_behind table first x.key next front back b.1 more) refl

-- rows below a key, and rows from that key on
pub join_ordered : (table : ℕ) (first next : Key) (front back : List Row) → are_ordered table first (Some next) None front ≡ true → are_ordered table next None None back ≡ true
    → are_ordered table first None None (front ++ back) ≡ true
join_ordered table first next [] back e more = absurd cc
join_ordered table first next (x ∷ front) back e more =
    let a = both_true (x.table == table) _ e in
    let b = both_true (follows first None x.key) _ a.1 in
    rw (a.0, b.0, join_behind table first x.key next front back b.1 more) refl

-- ---- what is told of the first row

pub first_is : (table : ℕ) (first : Key) (next : Option Key) (rows : List Placed) → are_ordered table first next None (rows_of_placed rows) ≡ true → first_row_key rows ≡ first
first_is table first next [] e = absurd cc
first_is table first next (x ∷ rows) e = same_key_is x.row.key first (both_true (is_same_key x.row.key first) _ (both_true (x.row.table == table) _ e).1).0

pub one_table : (t u : ℕ) (first other : Key) (next more : Option Key) (rows : List Row) → are_ordered t first next None rows ≡ true → are_ordered u other more None rows ≡ true → t ≡ u
one_table t u first other next more [] p q = absurd cc
one_table t u first other next more (row ∷ rows) p q = sym (eq_true row.table t (both_true (row.table == t) _ p).0) ∙ eq_true row.table u (both_true (row.table == u) _ q).0
