-- What the rules of the sheets give for each kind of calibration.
use Rattle.std.proofs.Common.{◌≡◌, ◌∙◌, ◌-◌, ◌*◌, ◌^◌, ◌<◌, ◌≤◌, ℕ, List, length, Some, Bool, true, false, refl, ap, sym, arith, subst}
use Rattle.std.specs.Prelude.{◌&&◌, ℤ, nat_le, nat_lt, sum_by, unsigned_abs}
use Rattle.std.specs.List.{AllByRecursion, position, position_or_len}
use Rattle.std.proofs.Math.Nat.{pow-le-pow_right}
use Rattle.std.proofs.lemmas.Bool.{leb-true, ltb-true}
use Rattle.std.proofs.lemmas.Int.{ints}
use Rattle.std.proofs.lemmas.Option.{cond_some}
use Rattle.mdb_items.specs.declared.calibration.Calibration.{Calibration}
use Rattle.mdb_items.specs.declared.calibration.EnumRow.{EnumRow}
use Rattle.mdb_items.specs.declared.calibration.PointsRow.{PointsRow}
use Rattle.mdb_items.specs.declared.calibration.PolyRow.{PolyRow}
use Rattle.mdb_items.specs.declared.calibration.Calibrator.{Calibrator}
use Rattle.mdb_items.specs.declared.calibration.Calibrator.TheVariants.{Poly, Points, Enum}
use Rattle.mdb_items.specs.declared.parameter.Coding.{Coding}
use Rattle.mdb_items.specs.declared.parameter.Coding.TheVariants.{Uint, Int, UintLe, IntLe}
use Rattle.mdb_items.specs.ParameterRows.{admits, degree, reach}
use Rattle.mdb_items.specs.Structure.{IsPoint, ArePointsRising}
use Rattle.calibration.specs.Admitted.{IsAdmitted, IsInWidth, IsSigned, IsUnsigned, KeepsRules}
use Rattle.calibration.specs.Carried.{AreCarried}

left_of_and : (a b : Bool) → (a && b) ≡ true → a ≡ true
left_of_and true b e = refl
left_of_and false b e = e

right_of_and : (a b : Bool) → (a && b) ≡ true → b ≡ true
right_of_and true b e = e
right_of_and false b e = cc

unsigned_within : (bits : ℕ) (raw : ℤ) → IsUnsigned bits raw → unsigned_abs raw ≤ 2 ^ bits
unsigned_within bits raw is = omega (arith, ints)

signed_within : (bits : ℕ) (raw : ℤ) → IsSigned bits raw → unsigned_abs raw ≤ 2 ^ bits
signed_within bits raw is =
    let some : 0 < 2 = omega arith in
    let half : 2 ^ (bits - 1) ≤ 2 ^ bits = pow-le-pow_right {n = 2} some (omega arith) in
    omega (arith, ints)

-- a raw number of a parameter has at most its bits
raw_within : (coding : Coding) (bits : ℕ) (raw : ℤ) → IsInWidth coding bits raw → unsigned_abs raw ≤ 2 ^ bits
raw_within Uint bits raw is = unsigned_within bits raw is
raw_within Int bits raw is = signed_within bits raw is
raw_within UintLe bits raw is = unsigned_within bits raw is
raw_within IntLe bits raw is = signed_within bits raw is

-- a polynomial that is admitted carries the raw number no further than 2^63 millionths
pub carried : (c : Calibration) (raw : ℤ) (rows : List PolyRow) → IsAdmitted (Some c) raw → c.calibrator ≡ Poly rows → AreCarried raw rows
carried c raw rows is e =
    let bits = is.parameter.bits in
    let both : (nat_le (bits * degree rows) 60 && nat_lt (sum_by (reach bits) rows) 9223372036854775808) ≡ true = ap (λ (t : Calibrator). admits bits (Some t)) (sym e) ∙ is.admitted in
    record {
      bits = bits;
      within = raw_within is.parameter.coding bits raw is.in_width;
      low = leb-true (bits * degree rows) 60 (left_of_and (nat_le (bits * degree rows) 60) (nat_lt (sum_by (reach bits) rows) 9223372036854775808) both);
      near = ltb-true (sum_by (reach bits) rows) 9223372036854775808 (right_of_and (nat_le (bits * degree rows) 60) (nat_lt (sum_by (reach bits) rows) 9223372036854775808) both);
    }

-- the points of a calibration that is admitted
pub points_of : (c : Calibration) (raw : ℤ) (points : List PointsRow) → IsAdmitted (Some c) raw → c.calibrator ≡ Points points → AllByRecursion IsPoint points × ArePointsRising points
points_of c raw points is e = subst (λ (t : Calibrator). KeepsRules (Some t)) e is.rules

-- the rows of an enumeration that is admitted
pub few_rows : (c : Calibration) (raw : ℤ) (rows : List EnumRow) → IsAdmitted (Some c) raw → c.calibrator ≡ Enum rows → length rows ≤ 65536
few_rows c raw rows is e = subst (λ (t : Calibrator). KeepsRules (Some t)) e is.rules

-- what `position` gives is a place of the list
pub place_within : {X : Type 0} (p : X → Bool) (xs : List X) (i : ℕ) → position p xs ≡ Some i → i < length xs
place_within p xs i e =
    let both = cond_some (nat_lt (position_or_len p xs) (length xs)) (position_or_len p xs) i e in
    let less = ltb-true (position_or_len p xs) (length xs) both.0 in
    omega (arith, both.1)
