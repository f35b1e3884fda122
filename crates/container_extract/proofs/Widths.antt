-- The raw numbers of a field lie in the range of its coding and width.
use Rattle.std.proofs.Common.{◌≡◌, ◌∙◌, ◌+◌, ◌-◌, ◌*◌, ◌/◌, ◌%◌, ◌^◌, ◌<◌, ◌≤◌, ℕ, zero, suc, Bool, true, false, inl, inr, refl, ap, sym, arith, subst}
use Rattle.std.specs.Prelude.{◌==◌, ◌&&◌, ◌||◌, not, Some, nat_le, nat_lt, if◌then◌else◌, ℤ, pos, ◌-ℤ◌}
use Rattle.std.proofs.Math.Nat.{pow-suc}
use Rattle.std.proofs.lemmas.Bool.{cases_Bool, eqb-true, leb-true, ltb-true, ltb-false}
use Rattle.std.proofs.lemmas.Int.{ints}
use Rattle.mdb_items.specs.declared.parameter.Coding.{Coding}
use Rattle.mdb_items.specs.declared.parameter.Coding.TheVariants.{Uint, Int, UintLe, IntLe}
use Rattle.mdb_items.specs.ParameterRows.{fits_coding, is_le}
use Rattle.calibration.specs.Admitted.{IsInWidth, IsSigned, IsUnsigned}
use Rattle.container_extract.specs.Bits.{coded_as, reversed, twos_complement}
use Rattle.container_extract.proofs.Numbers.{octets_are_bits, reversed_below}

left_of_and : (a b : Bool) → (a && b) ≡ true → a ≡ true
left_of_and true b e = refl
left_of_and false b e = e

right_of_and : (a b : Bool) → (a && b) ≡ true → b ≡ true
right_of_and true b e = e
right_of_and false b e = cc

-- the bounds of a width
pub width_bounds : (coding : Coding) (width : ℕ) → fits_coding (Some coding) (Some width) ≡ true → (1 ≤ width) × (width ≤ 64)
width_bounds coding width is =
    let both = left_of_and (nat_le 1 width && nat_le width 64) (not (is_le coding) || (width % 8 == 0)) is in
    (leb-true 1 width (left_of_and (nat_le 1 width) (nat_le width 64) both), leb-true width 64 (right_of_and (nat_le 1 width) (nat_le width 64) both))

whole_octets : (coding : Coding) (width : ℕ) → is_le coding ≡ true → fits_coding (Some coding) (Some width) ≡ true → 8 * (width / 8) ≡ width
whole_octets coding width le is =
    let last : (not (is_le coding) || (width % 8 == 0)) ≡ true = right_of_and (nat_le 1 width && nat_le width 64) (not (is_le coding) || (width % 8 == 0)) is in
    let even : (width % 8 == 0) ≡ true = ap (λ b. not b || (width % 8 == 0)) (sym le) ∙ last in
    let none = eqb-true (width % 8) 0 even in
    omega arith

unsigned : (width field : ℕ) → field < 2 ^ width → IsUnsigned width (pos field)
unsigned width field less = (omega (arith, ints), omega (arith, ints))

half : (width : ℕ) → 1 ≤ width → 2 ^ width ≡ 2 ^ (width - 1) + 2 ^ (width - 1)
half zero some = absurd (omega arith)
half (suc width) some =
    let at : suc width - 1 ≡ width = omega arith in
    let up = pow-suc 2 width in
    subst (λ (k : ℕ). 2 ^ suc width ≡ 2 ^ k + 2 ^ k) (sym at) (omega arith)

if_is : {X : Type 0} (b c : Bool) (x y : X) → b ≡ c → (if b then x else y) ≡ (if c then x else y)
if_is b c x y e = ap (λ (d : Bool). if d then x else y) e

signed : (width number : ℕ) → 1 ≤ width → number < 2 ^ width → IsSigned width (twos_complement width number)
signed width number some less =
    let twice = half width some in
    let b = nat_lt number (2 ^ (width - 1)) in
    let whole : ℤ = pos number -ℤ pos (2 ^ width) in
    elim (cases_Bool b) [
      | inl is ↦
          let low = ltb-true number (2 ^ (width - 1)) is in
          let P : ℤ → Type 0 = λ z. IsSigned width z in
          subst P (sym (if_is b true (pos number) whole is)) (omega (arith, ints), omega (arith, ints))
      | inr isnt ↦
          let high = ltb-false number (2 ^ (width - 1)) isnt in
          let P : ℤ → Type 0 = λ z. IsSigned width z in
          subst P (sym (if_is b false (pos number) whole isnt)) (omega (arith, ints), omega (arith, ints))
    ]

swapped : (coding : Coding) (width field : ℕ) → is_le coding ≡ true → fits_coding (Some coding) (Some width) ≡ true → reversed (width / 8) field < 2 ^ width
swapped coding width field le is =
    let bits : 256 ^ (width / 8) ≡ 2 ^ width = octets_are_bits (width / 8) ∙ ap (λ (k : ℕ). 2 ^ k) (whole_octets coding width le is) in
    let below = reversed_below (width / 8) field in
    omega arith

pub in_width : (coding : Coding) (width field : ℕ) → fits_coding (Some coding) (Some width) ≡ true → field < 2 ^ width → IsInWidth coding width (coded_as coding width field)
in_width Uint width field is less = unsigned width field less
in_width Int width field is less = let b = width_bounds Int width is in signed width field b.0 less
in_width UintLe width field is less = unsigned width (reversed (width / 8) field) (swapped UintLe width field refl is)
in_width IntLe width field is less = let b = width_bounds IntLe width is in signed width (reversed (width / 8) field) b.0 (swapped IntLe width field refl is)
