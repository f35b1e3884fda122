-- Positions from 0 to below a number, each once, and the rows in their order.
use Rattle.std.proofs.Common.{◌≡◌, ⊎_elim, ℕ, zero, suc, ◌+◌, ◌<◌, ◌≤◌, List, [], ◌∷◌, ◌++◌, length, map, Bool, true, false, true≢false, Some, refl, sym, ◌∙◌, ap, subst, arith, length-append, append_assoc}
use Rattle.std.specs.Prelude.{slice_get, nat_eq, Contains, ◌||◌}
use Rattle.std.specs.List.{AllByRecursion, IsDistinct, list_any}
use Rattle.std.proofs.lemmas.Bool.Decides.{nat_tests}
use Rattle.std.proofs.lemmas.List.{length-map}
use Rattle.std.proofs.lemmas.List.Folds.{list_any-append}
use Rattle.std.proofs.lemmas.Map.Keys.{IsDistinct-cons, IsDistinct-head, IsDistinct-tail}
use Rattle.std.proofs.lemmas.Map.Steps.{le-length_from_below, length-le_from_distinct_below}
use Rattle.arch_types.specs.declared.row.Row.{Row}
use Rattle.run_pages.specs.Placed.{Placed, behind_positions}
use Rattle.sealed_sums.specs.InOrder.{AreInOrder}
use Rattle.sealed_images.specs.Verdict.{ArePositions}
use Rattle.sealed_images.proofs.AnyOrder.{or_false}
use Rattle.sealed_images.proofs.InOrder.{got_cases}
use Rattle.sealed_images.proofs.LogReads.{there_below}

-- ---- numbers

apart_of : (p : ℕ) (xs : List ℕ) → list_any (nat_eq p) xs ≡ false → AllByRecursion (λ y. nat_eq p y ≡ false) xs
apart_of p [] none = tt
apart_of p (x ∷ xs) none = let parts = or_false (nat_eq p x) (list_any (nat_eq p) xs) none in (parts.0, apart_of p xs parts.1)

none_of : (p : ℕ) (xs : List ℕ) → AllByRecursion (λ y. nat_eq p y ≡ false) xs → list_any (nat_eq p) xs ≡ false
none_of p [] apart = refl
none_of p (x ∷ xs) apart = rw (apart.0) (none_of p xs apart.1)

below_all : (xs : List ℕ) (n q : ℕ) → AllByRecursion (λ p. p < n) xs → list_any (nat_eq q) xs ≡ true → q < n
below_all [] n q all has = absurd cc
below_all (x ∷ xs) n q all has = by (nat_eq q x) refl has (below_all xs n q all.1)
  where
    by : (b : Bool) → nat_eq q x ≡ b → (b || list_any (nat_eq q) xs) ≡ true → (list_any (nat_eq q) xs ≡ true → q < n) → q < n
    by true is has rest = let same : q ≡ x = grind (arith, nat_tests, is) in omega (arith, same, all.0)
    by false is has rest = rest has

-- so many numbers below as many, none of them twice, are all of them
has_each : (xs : List ℕ) (n : ℕ) → ArePositions xs n → (q : ℕ) → q < n → list_any (nat_eq q) xs ≡ true
has_each xs n are q lt = by (list_any (nat_eq q) xs) refl
  where
    by : (b : Bool) → list_any (nat_eq q) xs ≡ b → list_any (nat_eq q) xs ≡ true
    by true is = is
    by false is = absurd (omega (arith, are.all, length-le_from_distinct_below (q ∷ xs) n (IsDistinct-cons nat_eq q xs (apart_of q xs is) are.once) (λ p has. below_all (q ∷ xs) n p (lt, are.below) has)))

shorter : (a b c : Bool) → (a || (b || c)) ≡ true → (b ≡ true → c ≡ true) → (a || c) ≡ true
shorter true b c is twice = refl
shorter false true c is twice = twice refl
shorter false false c is twice = is

-- a number that stands once more behind isn't missed
without : (q x : ℕ) (front back : List ℕ) → list_any (nat_eq q) (front ++ x ∷ back) ≡ true → list_any (nat_eq x) back ≡ true → list_any (nat_eq q) (front ++ back) ≡ true
without q x front back has more =
    list_any-append (nat_eq q) front back
    ∙ shorter (list_any (nat_eq q) front) (nat_eq q x) (list_any (nat_eq q) back) (sym (list_any-append (nat_eq q) front (x ∷ back)) ∙ has)
    (λ is. let same : x ≡ q = grind (arith, nat_tests, is) in subst (λ (p : ℕ). list_any (nat_eq p) back ≡ true) same more)

-- so many numbers that have each one below as many have none twice
distinct_back : (n : ℕ) (front back : List ℕ) → ((q : ℕ) → q < n → list_any (nat_eq q) (front ++ back) ≡ true) → length (front ++ back) ≡ n → IsDistinct nat_eq back
unfolding IsDistinct
distinct_back n front [] each long = tt
distinct_back n front (x ∷ back) each long = (
  apart_of x back (by (list_any (nat_eq x) back) refl),
  distinct_back n (front ++ x ∷ []) back
      (λ q lt. ap (list_any (nat_eq q)) (append_assoc front (x ∷ []) back) ∙ each q lt)
      (ap length (append_assoc front (x ∷ []) back) ∙ long),
)
  where
    by : (b : Bool) → list_any (nat_eq x) back ≡ b → list_any (nat_eq x) back ≡ false
    by true is = absurd (omega (arith, long, length-append front (x ∷ back), length-append front back, le-length_from_below (front ++ back) n (λ q lt. without q x front back (each q lt) is)))
    by false is = is

-- ---- rows at positions

abbrev positions : List Placed → List ℕ
positions placed = map (λ (at : Placed). at.position) placed

or_right : (b c : Bool) → c ≡ true → (b || c) ≡ true
or_right true c is = refl
or_right false c is = is

found : (placed : List Placed) (p : ℕ) → list_any (nat_eq p) (positions placed) ≡ true → (row : Row) × Contains (behind_positions placed) (p, row)
found [] p has = absurd cc
found (at ∷ placed) p has = by (nat_eq p at.position) refl has (found placed p)
  where
    by : (b : Bool) → nat_eq p at.position ≡ b → (b || list_any (nat_eq p) (positions placed)) ≡ true → (list_any (nat_eq p) (positions placed) ≡ true → (row : Row) × Contains (behind_positions placed) (p, row))
        → (row : Row) × Contains (behind_positions (at ∷ placed)) (p, row)
    by true is has rest = let same : at.position ≡ p = grind (arith, nat_tests, is) in (at.row, (0, omega arith, λ k. (same k, at.row)))
    by false is has rest = let later = rest has in (later.0, (suc later.1.0, omega (arith, later.1.1), later.1.2))

there : (placed : List Placed) (p : ℕ) (row : Row) → Contains (behind_positions placed) (p, row) → list_any (nat_eq p) (positions placed) ≡ true
there [] p row (k, lt, is) = absurd (omega (arith, lt))
there (at ∷ placed) p row (zero, lt, is) =
    let same : at.position ≡ p = ap (λ (a : ℕ × Row). a.0) is in
    let here : nat_eq p at.position ≡ true = grind (arith, nat_tests, same) in
    rw here refl
there (at ∷ placed) p row (suc k, lt, is) = or_right (nat_eq p at.position) (list_any (nat_eq p) (positions placed)) (there placed p row (k, omega (arith, lt), is))

-- the position of the first row isn't that of another
not_twice : (at : Placed) (placed : List Placed) (p : ℕ) (row other : Row) → IsDistinct nat_eq (positions (at ∷ placed)) → ◌≡◌ {A = ℕ × Row} (at.position, at.row) (p, row) → list_any (nat_eq p) (positions placed) ≡ true → ⊥
not_twice at placed p row other once is more =
    let same : at.position ≡ p = ap (λ (a : ℕ × Row). a.0) is in
    let none : list_any (nat_eq p) (positions placed) ≡ false =
    subst (λ (q : ℕ). list_any (nat_eq q) (positions placed) ≡ false) same (none_of at.position (positions placed) (IsDistinct-head nat_eq at.position (positions placed) once)) in
    absurd (true≢false (sym more ∙ none))

-- a position that stands once has one row
one_row : (placed : List Placed) (p : ℕ) (row other : Row) → IsDistinct nat_eq (positions placed) → Contains (behind_positions placed) (p, row) → Contains (behind_positions placed) (p, other) → row ≡ other
one_row [] p row other once (k, lt, is) here = absurd (omega (arith, lt))
one_row (at ∷ placed) p row other once (zero, lt, is) (zero, gt, too) = ap (λ (a : ℕ × Row). a.1) (sym is ∙ too)
one_row (at ∷ placed) p row other once (zero, lt, is) (suc j, gt, too) =
    absurd (not_twice at placed p row other once is (there placed p other (j, omega (arith, gt), too)))
one_row (at ∷ placed) p row other once (suc k, lt, is) (zero, gt, too) =
    absurd (not_twice at placed p other row once too (there placed p row (k, omega (arith, lt), is)))
one_row (at ∷ placed) p row other once (suc k, lt, is) (suc j, gt, too) =
    one_row placed p row other (IsDistinct-tail nat_eq at.position (positions placed) once) (k, omega (arith, lt), is) (j, omega (arith, gt), too)

there_row : (rows : List Row) (p : ℕ) → p < length rows → (row : Row) × (slice_get rows p ≡ Some row)
there_row [] p lt = absurd (omega (arith, lt))
there_row (x ∷ rows) zero lt = (x, refl)
there_row (x ∷ rows) (suc p) lt = there_row rows p (omega (arith, lt))

last_got : (x : Row) (j : ℕ) (row : Row) → slice_get (x ∷ []) j ≡ Some row → (j ≡ 0) × (x ≡ row)
last_got x zero row is = let same : x ≡ row = cc in (refl, same)
last_got x (suc j) row is = absurd cc

-- ---- the rows in the order of their positions

-- the first ones, where each position has a row
record FirstRows (placed : List Placed) (k : ℕ) : Type 0 where
  pub rows : List Row
  pub long : length rows ≡ k
  pub each : (p : ℕ) (row : Row) → slice_get rows p ≡ Some row → Contains (behind_positions placed) (p, row)

first_rows : (placed : List Placed) (n : ℕ) → ((p : ℕ) → p < n → (row : Row) × Contains (behind_positions placed) (p, row)) → (k : ℕ) → k ≤ n → FirstRows placed k
first_rows placed n all zero le = record { rows = []; long = refl; each = λ p row at. absurd cc }
first_rows placed n all (suc k) le =
    let rest = first_rows placed n all k (omega (arith, le)) in
    let next = all k (omega (arith, le)) in
    record {
      rows = rest.rows ++ next.0 ∷ [];
      long = omega (arith, length-append rest.rows (next.0 ∷ []), rest.long);
      each = λ p row at. ⊎_elim (λ left. rest.each p row left)
          (λ right. let last = last_got next.0 right.0 row right.2 in
          let place : k ≡ p = omega (arith, right.1, last.0, rest.long) in
          subst (λ (q : ℕ). Contains (behind_positions placed) (q, row)) place (subst (λ (r : Row). Contains (behind_positions placed) (k, r)) last.1 next.1))
          (got_cases rest.rows (next.0 ∷ []) p row at);
    }

pub rows_in_order : (placed : List Placed) (n : ℕ) → ArePositions (positions placed) n → (rows : List Row) × AreInOrder (behind_positions placed) rows × (length rows ≡ n)
rows_in_order placed n are =
    let made = first_rows placed n (λ p lt. found placed p (has_each (positions placed) n are p lt)) n (omega arith) in (
      made.rows,
      record {
        as_many = omega (arith, made.long, are.all, length-map placed (λ (at : Placed). at.position), length-map {B = ℕ × Row} placed (λ (at : Placed). (at.position, at.row)));
        only = λ p row is.
            let within = below_all (positions placed) n p are.below (there placed p row is) in
            let own = there_row made.rows p (omega (arith, within, made.long)) in
            own.1 ∙ ap (λ (r : Row). Some r) (one_row placed p own.0 row are.once (made.each p own.0 own.1) is);
        each = made.each;
      },
      made.long,
    )

all_below : (placed : List Placed) (n : ℕ) → ((p : ℕ) (row : Row) → Contains (behind_positions placed) (p, row) → p < n) → AllByRecursion (λ p. p < n) (positions placed)
all_below [] n each = tt
all_below (at ∷ placed) n each = (each at.position at.row (0, omega arith, refl), all_below placed n (λ p row is. each p row (suc is.0, omega (arith, is.1), is.2)))

pub positions_of_order : (placed : List Placed) (rows : List Row) → AreInOrder (behind_positions placed) rows → ArePositions (positions placed) (length rows)
positions_of_order placed rows order = record {
  once = distinct_back (length rows) [] (positions placed) (λ q lt. let own = there_row rows q lt in there placed q own.0 (order.each q own.0 own.1)) long;
  below = all_below placed (length rows) (λ p row is. there_below rows p row (order.only p row is));
  all = long;
}
  where
    long : length (positions placed) ≡ length rows
    long = omega (arith, order.as_many, length-map placed (λ (at : Placed). at.position), length-map {B = ℕ × Row} placed (λ (at : Placed). (at.position, at.row)))
