-- The line through two points, computed with 128 bits.
use Rattle.std.proofs.Common.{◌≡◌, ◌∙◌, ◌<◌, ◌≤◌, ℕ, Some, Bool, true, false, refl, ap, sym, arith, subst, w64, to_z, of_z, FitsSigned}
use Rattle.std.specs.Prelude.{◌&&◌, not, ℤ, pos, negsuc, ◌+ℤ◌, ◌-ℤ◌, ◌*ℤ◌, ◌≤ℤ◌, ◌<ℤ◌, unsigned_abs, int_lt}
use Rattle.std.specs.Int.{int_div_euclid}
use Rattle.std.specs.Int.{w128}
use Rattle.std.proofs.lemmas.Bool.{ltb-true, ltb-false}
use Rattle.std.proofs.lemmas.Int.{ints, fits_signed_from_abs, fits_signed_mul, to_z-of_z, unsigned_abs-mul}
use Rattle.std.proofs.lemmas.Nat.{mul-le}
use Rattle.mdb_items.specs.declared.calibration.PointsRow.{PointsRow}
use Rattle.mdb_items.specs.Numbers.{is_decimal, is_in_range}
use Rattle.mdb_items.specs.Structure.{IsPoint}
use Rattle.calibration.specs.Calibrated.{on_line}
use Rattle.calibration.specs.Carried.{IsBetween}
use Rattle.calibration.proofs.Bounds.{abs_add, abs_sub, quotient_within}

-- a number of 128 bits, and one of 64 bits widened
abbrev pub plain : ℤ → ℤ
plain z = to_z w128 (of_z w128 z)

abbrev pub wide : ℤ → ℤ
wide m = plain (to_z w64 (of_z w64 m))

-- the differences as they are computed
abbrev pub rise : PointsRow → PointsRow → ℤ
rise p q = plain (wide q.millionths -ℤ wide p.millionths)

abbrev pub run : ℤ → ℤ → ℤ
run from to = plain (plain to -ℤ plain from)

left_of_and : (a b : Bool) → (a && b) ≡ true → a ≡ true
left_of_and true b e = refl
left_of_and false b e = e

right_of_and : (a b : Bool) → (a && b) ≡ true → b ≡ true
right_of_and true b e = e
right_of_and false b e = cc

not_true : (b : Bool) → not b ≡ true → b ≡ false
not_true true e = cc
not_true false e = refl

decimal_bound : (m : ℤ) → is_decimal (Some m) ≡ true → unsigned_abs m < 1000000000000000000
decimal_bound m is = ltb-true (unsigned_abs m) 1000000000000000000 is

range_bound : (x : ℤ) → is_in_range x ≡ true → unsigned_abs x ≤ 18446744073709551616
range_bound (pos n) is =
    let high = not_true (int_lt (pos 18446744073709551615) (pos n)) (right_of_and (not (int_lt (pos n) (negsuc 9223372036854775807))) (not (int_lt (pos 18446744073709551615) (pos n))) is) in
    let le = ltb-false 18446744073709551615 n high in
    omega arith
range_bound (negsuc n) is =
    let low = not_true (int_lt (negsuc n) (negsuc 9223372036854775807)) (left_of_and (not (int_lt (negsuc n) (negsuc 9223372036854775807))) (not (int_lt (pos 18446744073709551615) (negsuc n))) is) in
    let le = ltb-false 9223372036854775807 n low in
    omega arith

-- numbers far below 2^127 stay as they are
pub plain_is : (z : ℤ) → unsigned_abs z < 170141183460469231731687303715884105728 → plain z ≡ z
plain_is z less = to_z-of_z w128 z (fits_signed_from_abs w128 z less)

pub wide_is : (m : ℤ) → unsigned_abs m < 9223372036854775808 → wide m ≡ m
wide_is m less = ap plain (to_z-of_z w64 m (fits_signed_from_abs w64 m (omega arith))) ∙ plain_is m (omega arith)

less_is : (a b c d : ℤ) → a ≡ b → c ≡ d → (a -ℤ c) ≡ (b -ℤ d)
less_is a b c d e f = ap (λ (z : ℤ). z -ℤ c) e ∙ ap (λ (z : ℤ). b -ℤ z) f

times_is : (a b c d : ℤ) → a ≡ b → c ≡ d → (a *ℤ c) ≡ (b *ℤ d)
times_is a b c d e f = ap (λ (z : ℤ). z *ℤ c) e ∙ ap (λ (z : ℤ). b *ℤ z) f

rise_bound : (p q : PointsRow) → IsPoint p → IsPoint q → unsigned_abs (q.millionths -ℤ p.millionths) < 2000000000000000000
rise_bound p q first second =
    let a = decimal_bound p.millionths first.1 in
    let b = decimal_bound q.millionths second.1 in
    let c = abs_sub q.millionths p.millionths in
    omega arith

rise_is : (p q : PointsRow) → IsPoint p → IsPoint q → rise p q ≡ q.millionths -ℤ p.millionths
rise_is p q first second =
    let bound = rise_bound p q first second in
    ap plain (less_is (wide q.millionths) q.millionths (wide p.millionths) p.millionths (wide_is q.millionths (omega (arith, decimal_bound q.millionths second.1))) (wide_is p.millionths (omega (arith, decimal_bound p.millionths first.1)))) ∙ plain_is (q.millionths -ℤ p.millionths) (omega arith)

run_is : (from to : ℤ) → unsigned_abs from ≤ 18446744073709551616 → unsigned_abs to ≤ 18446744073709551616 → run from to ≡ to -ℤ from
run_is from to a b =
    let c = abs_sub to from in
    ap plain (less_is (plain to) to (plain from) from (plain_is to (omega arith)) (plain_is from (omega arith))) ∙ plain_is (to -ℤ from) (omega arith)

-- a positive number is a natural one
positive : (z : ℤ) → pos 0 <ℤ z → (n : ℕ) × (z ≡ pos n) × (0 < n)
positive (pos n) less = (n, refl, omega (arith, ints))
positive (negsuc n) less = absurd (omega (arith, ints))

-- the numbers that the line is computed from
pub record IsLine (p : PointsRow) (q : PointsRow) (raw : ℤ) : Type 0 where
  pub span : ℕ
  pub risen : rise p q ≡ q.millionths -ℤ p.millionths
  pub ran : run p.x raw ≡ raw -ℤ p.x
  pub width : run p.x q.x ≡ pos span
  pub between : q.x -ℤ p.x ≡ pos span
  pub some : 0 < span
  pub short : span ≤ 36893488147419103232
  pub near : unsigned_abs (raw -ℤ p.x) ≤ span
  pub low : unsigned_abs p.millionths < 1000000000000000000
  pub far : unsigned_abs (q.millionths -ℤ p.millionths) < 2000000000000000000

between_abs : (a b c : ℤ) (m : ℕ) → unsigned_abs a ≤ m → unsigned_abs c ≤ m → a ≤ℤ b → b <ℤ c → unsigned_abs b ≤ m
between_abs a b c m low high from to = omega (arith, ints)

near_abs : (a b c : ℤ) (n : ℕ) → a ≤ℤ b → b <ℤ c → (c -ℤ a) ≡ pos n → unsigned_abs (b -ℤ a) ≤ n
near_abs a b c n from to e = omega (arith, ints)

pub line : (p q : PointsRow) (raw : ℤ) → IsBetween p q raw → IsLine p q raw
line p q raw is =
    let low = range_bound p.x is.first.0 in
    let high = range_bound q.x is.second.0 in
    let from : p.x ≤ℤ raw = is.from in
    let to : raw <ℤ q.x = is.to in
    let near = between_abs p.x raw q.x 18446744073709551616 low high from to in
    let some : pos 0 <ℤ (q.x -ℤ p.x) = omega (arith, ints) in
    let n = positive (q.x -ℤ p.x) some in
    let long = abs_sub q.x p.x in
    let abs : unsigned_abs (q.x -ℤ p.x) ≡ n.0 = ap unsigned_abs n.1 in
    record {
      span = n.0;
      risen = rise_is p q is.first is.second;
      ran = run_is p.x raw low near;
      width = run_is p.x q.x low high ∙ n.1;
      between = n.1;
      some = n.2;
      short = omega arith;
      near = near_abs p.x raw q.x n.0 from to n.1;
      low = decimal_bound p.millionths is.first.1;
      far = rise_bound p q is.first is.second;
    }

-- the product fits
pub product_fits : (p q : PointsRow) (raw : ℤ) → IsBetween p q raw → FitsSigned w128 (rise p q *ℤ run p.x raw)
product_fits p q raw is =
    let l = line p q raw is in
    let far : unsigned_abs (q.millionths -ℤ p.millionths) ≤ 2000000000000000000 = omega (arith, l.far) in
    let near : unsigned_abs (raw -ℤ p.x) ≤ 36893488147419103232 = omega (arith, l.near, l.short) in
    let fits = fits_signed_mul w128 (q.millionths -ℤ p.millionths) (raw -ℤ p.x) 2000000000000000000 36893488147419103232 far near (omega arith) in
    subst (FitsSigned w128) (sym (times_is (rise p q) (q.millionths -ℤ p.millionths) (run p.x raw) (raw -ℤ p.x) l.risen l.ran)) fits

-- the divisor isn't minus one
pub not_minus_one : (p q : PointsRow) (raw : ℤ) → IsBetween p q raw → of_z w128 (run p.x q.x) ≡ 340282366920938463463374607431768211455 → ⊥
not_minus_one p q raw is e =
    let l = line p q raw is in
    let same : l.span ≡ 340282366920938463463374607431768211455 = ap (of_z w128) (sym l.width) ∙ e in
    omega (arith, l.short)

product_is : (p q : PointsRow) (raw : ℤ) → IsBetween p q raw → plain (rise p q *ℤ run p.x raw) ≡ (q.millionths -ℤ p.millionths) *ℤ (raw -ℤ p.x)
product_is p q raw is =
    let l = line p q raw is in
    to_z-of_z w128 (rise p q *ℤ run p.x raw) (product_fits p q raw is) ∙ times_is (rise p q) (q.millionths -ℤ p.millionths) (run p.x raw) (raw -ℤ p.x) l.risen l.ran

-- the quotient as it is computed
abbrev pub computed : PointsRow → PointsRow → ℤ → ℤ
computed p q raw = int_div_euclid (plain (rise p q *ℤ run p.x raw)) (run p.x q.x)

abbrev quotient : PointsRow → PointsRow → ℤ → ℤ
quotient p q raw = int_div_euclid ((q.millionths -ℤ p.millionths) *ℤ (raw -ℤ p.x)) (q.x -ℤ p.x)

quotient_is : (p q : PointsRow) (raw : ℤ) → IsBetween p q raw → computed p q raw ≡ quotient p q raw
quotient_is p q raw is =
    let l = line p q raw is in
    ap (λ (z : ℤ). int_div_euclid z (run p.x q.x)) (product_is p q raw is) ∙ ap (int_div_euclid ((q.millionths -ℤ p.millionths) *ℤ (raw -ℤ p.x))) (l.width ∙ sym l.between)

-- it is no larger than the rise
quotient_bound : (p q : PointsRow) (raw : ℤ) → IsBetween p q raw → unsigned_abs (quotient p q raw) < 2000000000000000000
quotient_bound p q raw is =
    let l = line p q raw is in
    let d = unsigned_abs (q.millionths -ℤ p.millionths) in
    let z = (q.millionths -ℤ p.millionths) *ℤ (raw -ℤ p.x) in
    let abs = unsigned_abs-mul (q.millionths -ℤ p.millionths) (raw -ℤ p.x) in
    let less = mul-le d (unsigned_abs (raw -ℤ p.x)) d l.span (omega arith) l.near in
    let within = quotient_within z d l.span l.some (omega arith) in
    let same : unsigned_abs (quotient p q raw) ≡ unsigned_abs (int_div_euclid z (pos l.span)) = ap (λ (w : ℤ). unsigned_abs (int_div_euclid z w)) l.between in
    omega (arith, l.far)

-- the value as it is computed
abbrev pub value : PointsRow → ℤ → ℤ
value p r = wide p.millionths +ℤ plain r

pub value_is : (p q : PointsRow) (raw r : ℤ) → IsBetween p q raw → r ≡ computed p q raw → value p r ≡ on_line p q raw
value_is p q raw r is e =
    let l = line p q raw is in
    let same : r ≡ quotient p q raw = e ∙ quotient_is p q raw is in
    let bound = quotient_bound p q raw is in
    ap (λ (z : ℤ). z +ℤ plain r) (wide_is p.millionths (omega (arith, l.low))) ∙ ap (λ (z : ℤ). p.millionths +ℤ plain z) same ∙ ap (λ (z : ℤ). p.millionths +ℤ z) (plain_is (quotient p q raw) (omega arith))

pub on_line_bound : (p q : PointsRow) (raw : ℤ) → IsBetween p q raw → unsigned_abs (on_line p q raw) < 3000000000000000000
on_line_bound p q raw is =
    let l = line p q raw is in
    let bound = quotient_bound p q raw is in
    let sum = abs_add p.millionths (quotient p q raw) in
    omega (arith, l.low)

pub value_fits : (p q : PointsRow) (raw r : ℤ) → IsBetween p q raw → r ≡ computed p q raw → FitsSigned w128 (value p r)
value_fits p q raw r is e =
    let bound = on_line_bound p q raw is in
    subst (FitsSigned w128) (sym (value_is p q raw r is e)) (fits_signed_from_abs w128 (on_line p q raw) (omega arith))

pub plain_value : (p q : PointsRow) (raw r : ℤ) → IsBetween p q raw → r ≡ computed p q raw → plain (value p r) ≡ on_line p q raw
plain_value p q raw r is e = to_z-of_z w128 (value p r) (value_fits p q raw r is e) ∙ value_is p q raw r is e

pub narrow_fits : (p q : PointsRow) (raw r : ℤ) → IsBetween p q raw → r ≡ computed p q raw → FitsSigned w64 (plain (value p r))
narrow_fits p q raw r is e =
    let bound = on_line_bound p q raw is in
    subst (FitsSigned w64) (sym (plain_value p q raw r is e)) (fits_signed_from_abs w64 (on_line p q raw) (omega arith))

pub narrow_is : (p q : PointsRow) (raw r : ℤ) → IsBetween p q raw → r ≡ computed p q raw → to_z w64 (of_z w64 (plain (value p r))) ≡ on_line p q raw
narrow_is p q raw r is e = to_z-of_z w64 (plain (value p r)) (narrow_fits p q raw r is e) ∙ plain_value p q raw r is e
