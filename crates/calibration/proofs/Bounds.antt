-- How large terms, sums and quotients get.
use Rattle.std.proofs.Common.{◌≡◌, ◌∙◌, ◌+◌, ◌*◌, ◌/◌, ◌%◌, ◌^◌, ◌<◌, ◌≤◌, ℕ, zero, suc, List, [], ◌∷◌, Bool, true, false, cond, refl, ap, sym, arith}
use Rattle.std.specs.Prelude.{◌==◌, ℤ, pos, negsuc, ◌+ℤ◌, ◌-ℤ◌, neg_ℤ, unsigned_abs, fold, sum_by}
use Rattle.std.specs.Int.{int_pow, int_div_euclid}
use Rattle.std.proofs.Math.Nat.{pow-le-pow_left, pow-suc, pow-zero}
use Rattle.std.proofs.lemmas.Int.{ints, unsigned_abs-mul}
use Rattle.std.proofs.lemmas.List.Sums.{sum_by-cons}
use Rattle.std.proofs.lemmas.Nat.{div_below, mul-le, pow-add}
use Rattle.mdb_items.specs.declared.calibration.PolyRow.{PolyRow}
use Rattle.mdb_items.specs.ParameterRows.{reach}
use Rattle.calibration.specs.Calibrated.{polynomial, term}

pub abs_neg : (n : ℕ) → unsigned_abs (neg_ℤ (pos n)) ≡ n
abs_neg zero = refl
abs_neg (suc n) = refl

abs_signed : (b : Bool) (n : ℕ) → unsigned_abs (cond b (pos n) (neg_ℤ (pos n))) ≡ n
abs_signed true n = refl
abs_signed false n = abs_neg n

-- the magnitude of a power is the power of the magnitude
pub abs_pow : (z : ℤ) (e : ℕ) → unsigned_abs (int_pow z e) ≡ unsigned_abs z ^ e
abs_pow (pos a) e = refl
abs_pow (negsuc a) e = abs_signed (e % 2 == 0) (suc a ^ e)

pub abs_add : (a b : ℤ) → unsigned_abs (a +ℤ b) ≤ unsigned_abs a + unsigned_abs b
abs_add a b = omega (arith, ints)

pow_of_pow : (a b k : ℕ) → (a ^ b) ^ k ≡ a ^ (b * k)
pow_of_pow a b zero = let n : b * 0 ≡ 0 = omega arith in pow-zero (a ^ b) ∙ sym (ap (λ (k : ℕ). a ^ k) n ∙ pow-zero a)
pow_of_pow a b (suc k) =
    let n : b * k + b ≡ b * suc k = omega arith in
    pow-suc (a ^ b) k ∙ ap (λ (x : ℕ). x * a ^ b) (pow_of_pow a b k) ∙ sym (pow-add a (b * k) b) ∙ ap (λ (x : ℕ). a ^ x) n

pub abs_sub : (a b : ℤ) → unsigned_abs (a -ℤ b) ≤ unsigned_abs a + unsigned_abs b
abs_sub a b = omega (arith, ints)

-- a power of a number of so many bits
pub pow_within : (z : ℤ) (bits e : ℕ) → unsigned_abs z ≤ 2 ^ bits → unsigned_abs (int_pow z e) ≤ 2 ^ (bits * e)
pow_within z bits e within =
    let up : unsigned_abs z ^ e ≤ (2 ^ bits) ^ e = pow-le-pow_left within e in
    let same = pow_of_pow 2 bits e in
    let abs = abs_pow z e in
    omega arith

-- a term is no larger than its coefficient's reach
pub term_within : (raw : ℤ) (bits : ℕ) (row : PolyRow) → unsigned_abs raw ≤ 2 ^ bits → unsigned_abs (term raw row) ≤ reach bits row
term_within raw bits row within =
    let m = unsigned_abs row.millionths in
    let p = pow_within raw bits row.exponent within in
    let abs = unsigned_abs-mul row.millionths (int_pow raw row.exponent) in
    let less = mul-le m (unsigned_abs (int_pow raw row.exponent)) m (2 ^ (bits * row.exponent)) (omega arith) p in
    omega arith

sum_from : (raw : ℤ) (bits : ℕ) (sum : ℤ) (rows : List PolyRow) → unsigned_abs raw ≤ 2 ^ bits
    → unsigned_abs (fold (λ sum row. sum +ℤ term raw row) sum rows) ≤ unsigned_abs sum + sum_by (reach bits) rows
sum_from raw bits sum [] within = omega arith
sum_from raw bits sum (row ∷ rows) within =
    let rest = sum_from raw bits (sum +ℤ term raw row) rows within in
    let here = term_within raw bits row within in
    let both = abs_add sum (term raw row) in
    omega (arith, sum_by-cons (reach bits) row rows)

-- a polynomial is no larger than its coefficients reach together
pub polynomial_within : (raw : ℤ) (bits : ℕ) (rows : List PolyRow) → unsigned_abs raw ≤ 2 ^ bits → unsigned_abs (polynomial rows raw) ≤ sum_by (reach bits) rows
polynomial_within raw bits rows within = omega (arith, sum_from raw bits (pos 0) rows within)

-- the quotient of a product by one of its factors' bounds, rounded down
pub quotient_within : (z : ℤ) (d n : ℕ) → 0 < n → unsigned_abs z ≤ d * n → unsigned_abs (int_div_euclid z (pos n)) ≤ d
quotient_within (pos a) d n some fits = let less : a / n < suc d = div_below a n (suc d) some (omega arith) in omega arith
quotient_within (negsuc a) d n some fits = let less : a / n < d = div_below a n d some (omega arith) in omega arith
