-- The terms of a polynomial and their sum, computed with 128 bits.
use Rattle.std.proofs.Common.{◌≡◌, ◌∙◌, ◌+◌, ◌*◌, ◌^◌, ◌<◌, ◌≤◌, ℕ, zero, suc, List, [], ◌∷◌, length, get_or, take, ap, sym, arith, subst, w64, FitsSigned}
use Rattle.std.specs.Prelude.{ℤ, pos, ◌+ℤ◌, ◌*ℤ◌, unsigned_abs, fold, max}
use Rattle.std.specs.Int.{int_pow, w128}
use Rattle.std.proofs.Math.Nat.{le-max_left, le-max_right, mul-le-mul_left, pow-le-pow_right}
use Rattle.std.proofs.lemmas.Int.{fits_signed_from_abs, to_z-of_z}
use Rattle.std.proofs.lemmas.List.Sums.{fold_more, get_or-le-sum_by, sum_by-take-le}
use Rattle.std.proofs.lemmas.Nat.{pow_pos}
use Rattle.mdb_items.specs.declared.calibration.PolyRow.{PolyRow}
use Rattle.mdb_items.specs.ParameterRows.{degree, reach}
use Rattle.calibration.specs.Calibrated.{polynomial, term}
use Rattle.calibration.specs.Carried.{AreCarried, IsCarried}
use Rattle.calibration.proofs.Bounds.{polynomial_within, pow_within, term_within}
use Rattle.calibration.proofs.Line.{plain, plain_is, wide, wide_is}

-- ---- a term

power_bound : (raw : ℤ) (row : PolyRow) → IsCarried raw row → unsigned_abs (int_pow raw row.exponent) ≤ 1152921504606846976
power_bound raw row is =
    let within = pow_within raw is.bits row.exponent is.within in
    let some : 0 < 2 = omega arith in
    let low : 2 ^ (is.bits * row.exponent) ≤ 2 ^ 60 = pow-le-pow_right {n = 2} some is.low in
    omega arith

pub power_fits : (raw : ℤ) (row : PolyRow) → IsCarried raw row → FitsSigned w128 (int_pow raw row.exponent)
power_fits raw row is = let bound = power_bound raw row is in fits_signed_from_abs w128 (int_pow raw row.exponent) (omega arith)

term_bound : (raw : ℤ) (row : PolyRow) → IsCarried raw row → unsigned_abs (term raw row) < 9223372036854775808
term_bound raw row is = let within = term_within raw is.bits row is.within in omega (arith, is.near)

coefficient_bound : (raw : ℤ) (row : PolyRow) → IsCarried raw row → unsigned_abs row.millionths < 9223372036854775808
coefficient_bound raw row is =
    let m = unsigned_abs row.millionths in
    let p = 2 ^ (is.bits * row.exponent) in
    let some : 0 < p = pow_pos (is.bits * row.exponent) in
    let one : m * 1 ≤ m * p = mul-le-mul_left m (omega arith) in
    omega (arith, is.near)

-- the product as it is computed
product_is : (raw r : ℤ) (row : PolyRow) → IsCarried raw row → r ≡ int_pow raw row.exponent → wide row.millionths *ℤ plain r ≡ term raw row
product_is raw r row is e =
    let bound = power_bound raw row is in
    ap (λ (z : ℤ). z *ℤ plain r) (wide_is row.millionths (coefficient_bound raw row is)) ∙ ap (λ (z : ℤ). row.millionths *ℤ plain z) e
    ∙ ap (λ (z : ℤ). row.millionths *ℤ z) (plain_is (int_pow raw row.exponent) (omega arith))

pub term_fits : (raw r : ℤ) (row : PolyRow) → IsCarried raw row → r ≡ int_pow raw row.exponent → FitsSigned w128 (wide row.millionths *ℤ plain r)
term_fits raw r row is e =
    let bound = term_bound raw row is in
    subst (FitsSigned w128) (sym (product_is raw r row is e)) (fits_signed_from_abs w128 (term raw row) (omega arith))

pub term_is : (raw r : ℤ) (row : PolyRow) → IsCarried raw row → r ≡ int_pow raw row.exponent → plain (wide row.millionths *ℤ plain r) ≡ term raw row
term_is raw r row is e = to_z-of_z w128 (wide row.millionths *ℤ plain r) (term_fits raw r row is e) ∙ product_is raw r row is e

-- ---- the sum

degree_from : (d : ℕ) (rows : List PolyRow) → d ≤ fold (λ d r. max d r.exponent) d rows
degree_from d [] = omega arith
degree_from d (r ∷ rows) = let rest = degree_from (max d r.exponent) rows in let up = le-max_left d r.exponent in omega arith

degree_at : (d : ℕ) (rows : List PolyRow) (i : ℕ) (e : PolyRow) → i < length rows → (get_or rows i e).exponent ≤ fold (λ d r. max d r.exponent) d rows
degree_at d [] i e lt = absurd (omega arith)
degree_at d (r ∷ rows) zero e lt = let rest = degree_from (max d r.exponent) rows in let up = le-max_right d r.exponent in omega arith
degree_at d (r ∷ rows) (suc i) e lt = degree_at (max d r.exponent) rows i e (omega arith)

-- each coefficient carries the raw number no further than all
pub carried_at : (raw : ℤ) (rows : List PolyRow) (i : ℕ) (d : PolyRow) → AreCarried raw rows → i < length rows → IsCarried raw (get_or rows i d)
carried_at raw rows i d is lt =
    let top = degree_at 0 rows i d lt in
    let up : is.bits * (get_or rows i d).exponent ≤ is.bits * degree rows = mul-le-mul_left is.bits top in
    let low : is.bits * (get_or rows i d).exponent ≤ 60 = omega (arith, is.low) in
    let one = get_or-le-sum_by (reach is.bits) rows i d lt in
    let near : reach is.bits (get_or rows i d) < 9223372036854775808 = omega (arith, is.near) in
    record { bits = is.bits; within = is.within; low = low; near = near }

part_bound : (raw : ℤ) (rows : List PolyRow) (i : ℕ) → AreCarried raw rows → unsigned_abs (polynomial (take i rows) raw) < 9223372036854775808
part_bound raw rows i is =
    let within = polynomial_within raw is.bits (take i rows) is.within in
    let part = sum_by-take-le (reach is.bits) rows i in
    omega (arith, is.near)

-- the sum with one more term as it is computed
more_is : (raw sum t : ℤ) (rows : List PolyRow) (i : ℕ) (d : PolyRow) → AreCarried raw rows → i < length rows → sum ≡ polynomial (take i rows) raw → t ≡ term raw (get_or rows i d)
    → sum +ℤ plain t ≡ polynomial (take (i + 1) rows) raw
more_is raw sum t rows i d is lt s e =
    let row = get_or rows i d in
    let bound = term_bound raw row (carried_at raw rows i d is lt) in
    ap (λ (z : ℤ). z +ℤ plain t) s ∙ ap (λ (z : ℤ). polynomial (take i rows) raw +ℤ plain z) e ∙ ap (λ (z : ℤ). polynomial (take i rows) raw +ℤ z) (plain_is (term raw row) (omega arith))
    ∙ sym (fold_more (λ (sum : ℤ) (row : PolyRow). sum +ℤ term raw row) (pos 0) rows i d lt)

pub sum_fits : (raw sum t : ℤ) (rows : List PolyRow) (i : ℕ) (d : PolyRow) → AreCarried raw rows → i < length rows → sum ≡ polynomial (take i rows) raw → t ≡ term raw (get_or rows i d)
    → FitsSigned w128 (sum +ℤ plain t)
sum_fits raw sum t rows i d is lt s e =
    let bound = part_bound raw rows (i + 1) is in
    subst (FitsSigned w128) (sym (more_is raw sum t rows i d is lt s e)) (fits_signed_from_abs w128 (polynomial (take (i + 1) rows) raw) (omega arith))

pub sum_more : (raw sum t : ℤ) (rows : List PolyRow) (i : ℕ) (d : PolyRow) → AreCarried raw rows → i < length rows → sum ≡ polynomial (take i rows) raw → t ≡ term raw (get_or rows i d)
    → plain (sum +ℤ plain t) ≡ polynomial (take (i + 1) rows) raw
sum_more raw sum t rows i d is lt s e = to_z-of_z w128 (sum +ℤ plain t) (sum_fits raw sum t rows i d is lt s e) ∙ more_is raw sum t rows i d is lt s e

pub narrow_fits : (raw sum : ℤ) (rows : List PolyRow) (i : ℕ) → AreCarried raw rows → sum ≡ polynomial (take i rows) raw → FitsSigned w64 sum
narrow_fits raw sum rows i is s =
    let bound = part_bound raw rows i is in
    subst (FitsSigned w64) (sym s) (fits_signed_from_abs w64 (polynomial (take i rows) raw) (omega arith))
