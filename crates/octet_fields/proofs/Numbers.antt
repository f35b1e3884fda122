-- Numbers, names and counted lists are read exactly.
use Rattle.std.proofs.Common.{◌≡◌, ℕ, ℤ, ◌+◌, ◌*◌, ◌/◌, ◌%◌, ◌^◌, ◌<◌, ◌≤◌, false, ltb, List, [], ◌∷◌, ◌++◌, length, take, drop, Some, refl, sym, ap, subst, ◌∙◌, append_assoc, arith, inl, inr}
use mir.Val.{bits}
use Rattle.std.specs.Int.{Width, w8, w16, w32, w64, w128, byte_len, from_be_bytes, to_be_bytes, cast_signed, cast_unsigned}
use Rattle.std.specs.Int.RustNames.{FitsSigned}
use Rattle.std.specs.List.{AllByRecursion}
use Rattle.std.proofs.lemmas.Bool.{cases_lt, ltb-false, le-ltb}
use Rattle.std.proofs.lemmas.Int.{ints, to_z-of_z, of_z-to_z}
use Rattle.std.proofs.lemmas.List.{take_at, drop_at, take-append-drop, length-append, length-take, length-drop, get_or-take, get_or-drop, get_or_past}
use Rattle.std.proofs.Math.Nat.{div-div-eq-div-mul}
use Rattle.std.proofs.lemmas.Nat.{div-mul-add, be_bytes_2, be_bytes_4, be_bytes_8, from_be_bytes-to_be_bytes_2, from_be_bytes-to_be_bytes_4, from_be_bytes-to_be_bytes_8}
use Rattle.octet_fields.specs.Reading.{Reader, kind_at, number_at, signed_at, name_at, counted_at}
use Rattle.octet_fields.specs.Spelling.{number, signed, name, counted}
use Rattle.octet_fields.specs.Exact.{IsOctets, IsExactBefore, IsExact}
use Rattle.octet_fields.proofs.Exact.{bind_some, some_is, guard_some, rest_octets, IsExact-octets, IsExact-both, IsExact-mapped, IsExact-times}

-- A width whose numbers are spelled in whole octets. Where the width is a variable, octets don't compute.
record IsWide (w : Width) : Type 0 where
  len : (n : ℕ) → length (to_be_bytes w n) ≡ byte_len w
  back : (octets : List ℕ) → length octets ≡ byte_len w → IsOctets octets → to_be_bytes w (from_be_bytes w octets) ≡ octets
  again : (n : ℕ) → n < 2 ^ bits w → from_be_bytes w (to_be_bytes w n) ≡ n
  below : (octets : List ℕ) → IsOctets octets → from_be_bytes w octets < 2 ^ bits w
  signed_fits : (n : ℕ) → n < 2 ^ bits w → FitsSigned w (cast_signed w n)
  unsigned_fits : (z : ℤ) → FitsSigned w z → cast_unsigned w z < 2 ^ bits w

IsOctets-take : (n : ℕ) (octets : List ℕ) → IsOctets octets → IsOctets (take n octets)
IsOctets-take n octets are i =
    elim (cases_lt i n) [
      | inl lt ↦ rw (get_or-take n octets i 0 lt) (are i)
      | inr le ↦ rw (get_or_past (take n octets) i 0 (omega (arith, length-take n octets))) (omega arith)
    ]

IsOctets-drop : (n : ℕ) (octets : List ℕ) → IsOctets octets → IsOctets (drop n octets)
IsOctets-drop n octets are i = rw (get_or-drop n octets i 0) (are (n + i))

number_exact : (w : Width) → IsWide w → IsExact (λ n. n < 2 ^ bits w) (number w) (number_at w)
unfolding number number_at
number_exact w wide = record {
  takes = λ octets x are e.
      let g = guard_some (ltb (length octets) (byte_len w)) (Some (from_be_bytes w (take (byte_len w) octets), drop (byte_len w) octets)) x e in
      let long : byte_len w ≤ length octets = ltb-false _ _ g.0 in
      let front : to_be_bytes w (from_be_bytes w (take (byte_len w) octets)) ≡ take (byte_len w) octets = wide.back (take (byte_len w) octets) (omega (arith, length-take (byte_len w) octets)) (IsOctets-take (byte_len w) octets are) in
      let made : ℕ × List ℕ = (from_be_bytes w (take (byte_len w) octets), drop (byte_len w) octets) in
      subst (λ (y : ℕ × List ℕ). (octets ≡ to_be_bytes w y.0 ++ y.1) × (y.0 < 2 ^ bits w)) (some_is made x g.1)
      (rw front (sym (take-append-drop (byte_len w) octets)), wide.below (take (byte_len w) octets) (IsOctets-take (byte_len w) octets are));
  again = λ n rest may lt.
      let len = wide.len n in
      let long : ltb (length (to_be_bytes w n ++ rest)) (byte_len w) ≡ false = le-ltb _ _ (omega (arith, length-append (to_be_bytes w n) rest)) in
      rw (long, take_at (to_be_bytes w n) rest (byte_len w) len, drop_at (to_be_bytes w n) rest (byte_len w) len, wide.again n lt) refl;
}

signed_exact : (w : Width) → IsWide w → IsExact (FitsSigned w) (signed w) (signed_at w)
unfolding signed signed_at
signed_exact w wide = IsExact-mapped (number_exact w wide) (FitsSigned w) (cast_signed w) (cast_unsigned w)
    (λ n lt. (wide.signed_fits n lt, of_z-to_z w n lt)) (λ z fits. (wide.unsigned_fits z fits, to_z-of_z w z fits))

-- ---- the widths

one_octet : (octets : List ℕ) → length octets ≡ 1 → IsOctets octets → to_be_bytes w8 (from_be_bytes w8 octets) ≡ octets
one_octet [] e are = absurd (omega arith)
one_octet (b ∷ []) e are = let lt : b < 256 = are 0 in ap (λ (x : ℕ). x ∷ []) (omega arith)
one_octet (b ∷ c ∷ bs) e are = absurd (omega arith)

wide8 : IsWide w8
wide8 = record {
  len = λ n. refl;
  back = one_octet;
  again = λ n lt. omega arith;
  below = λ octets are. omega (arith, are 0);
  signed_fits = λ n lt. record { sfits = grind (arith, ints) };
  unsigned_fits = λ z fits. let s = fits.sfits in grind (arith, ints);
}

wide16 : IsWide w16
wide16 = record {
  len = λ n. refl;
  back = λ octets len are. be_bytes_2 octets _ len are refl;
  again = λ n lt. from_be_bytes-to_be_bytes_2 n lt;
  below = λ octets are. omega (arith, are 0, are 1);
  signed_fits = λ n lt. record { sfits = grind (arith, ints) };
  unsigned_fits = λ z fits. let s = fits.sfits in grind (arith, ints);
}

wide32 : IsWide w32
wide32 = record {
  len = λ n. refl;
  back = λ octets len are. be_bytes_4 octets _ len are refl;
  again = λ n lt. from_be_bytes-to_be_bytes_4 n lt;
  below = λ octets are. omega (arith, are 0, are 1, are 2, are 3);
  signed_fits = λ n lt. record { sfits = grind (arith, ints) };
  unsigned_fits = λ z fits. let s = fits.sfits in grind (arith, ints);
}

wide64 : IsWide w64
wide64 = record {
  len = λ n. refl;
  back = λ octets len are. be_bytes_8 octets _ len are refl;
  again = λ n lt. from_be_bytes-to_be_bytes_8 n lt;
  below = λ octets are. omega (arith, are 0, are 1, are 2, are 3, are 4, are 5, are 6, are 7);
  signed_fits = λ n lt. record { sfits = grind (arith, ints) };
  unsigned_fits = λ z fits. let s = fits.sfits in grind (arith, ints);
}

-- ---- sixteen octets are twice eight

above : (n unit : ℕ) → n / (2 ^ 64 * unit) % 256 ≡ n / 2 ^ 64 / unit % 256
above n unit = ap (λ (q : ℕ). q % 256) (sym (div-div-eq-div-mul n (2 ^ 64) unit))

high_and_low : (n : ℕ) → to_be_bytes w128 n ≡ to_be_bytes w64 (n / 2 ^ 64) ++ to_be_bytes w64 (n % 2 ^ 64)
high_and_low n =
    let low : ℕ = n % 2 ^ 64 in
    let high : ℕ = n / 2 ^ 64 in
    let b15 : n / 256 ^ 15 % 256 ≡ high / 256 ^ 7 % 256 = above n (256 ^ 7) in
    let b14 : n / 256 ^ 14 % 256 ≡ high / 256 ^ 6 % 256 = above n (256 ^ 6) in
    let b13 : n / 256 ^ 13 % 256 ≡ high / 256 ^ 5 % 256 = above n (256 ^ 5) in
    let b12 : n / 256 ^ 12 % 256 ≡ high / 256 ^ 4 % 256 = above n (256 ^ 4) in
    let b11 : n / 256 ^ 11 % 256 ≡ high / 256 ^ 3 % 256 = above n (256 ^ 3) in
    let b10 : n / 256 ^ 10 % 256 ≡ high / 256 ^ 2 % 256 = above n (256 ^ 2) in
    let b9 : n / 256 ^ 9 % 256 ≡ high / 256 ^ 1 % 256 = above n (256 ^ 1) in
    let b8 : n / 256 ^ 8 % 256 ≡ high % 256 = refl in
    let b7 : n / 256 ^ 7 % 256 ≡ low / 256 ^ 7 % 256 = omega arith in
    let b6 : n / 256 ^ 6 % 256 ≡ low / 256 ^ 6 % 256 = omega arith in
    let b5 : n / 256 ^ 5 % 256 ≡ low / 256 ^ 5 % 256 = omega arith in
    let b4 : n / 256 ^ 4 % 256 ≡ low / 256 ^ 4 % 256 = omega arith in
    let b3 : n / 256 ^ 3 % 256 ≡ low / 256 ^ 3 % 256 = omega arith in
    let b2 : n / 256 ^ 2 % 256 ≡ low / 256 ^ 2 % 256 = omega arith in
    let b1 : n / 256 ^ 1 % 256 ≡ low / 256 ^ 1 % 256 = omega arith in
    let b0 : n % 256 ≡ low % 256 = omega arith in
    cc

from_high_and_low : (octets : List ℕ) → from_be_bytes w128 octets ≡ from_be_bytes w64 (take 8 octets) * 2 ^ 64 + from_be_bytes w64 (drop 8 octets)
from_high_and_low octets =
    let a0 = get_or-take 8 octets 0 0 (omega arith) in
    let a1 = get_or-take 8 octets 1 0 (omega arith) in
    let a2 = get_or-take 8 octets 2 0 (omega arith) in
    let a3 = get_or-take 8 octets 3 0 (omega arith) in
    let a4 = get_or-take 8 octets 4 0 (omega arith) in
    let a5 = get_or-take 8 octets 5 0 (omega arith) in
    let a6 = get_or-take 8 octets 6 0 (omega arith) in
    let a7 = get_or-take 8 octets 7 0 (omega arith) in
    let b0 = get_or-drop 8 octets 0 0 in
    let b1 = get_or-drop 8 octets 1 0 in
    let b2 = get_or-drop 8 octets 2 0 in
    let b3 = get_or-drop 8 octets 3 0 in
    let b4 = get_or-drop 8 octets 4 0 in
    let b5 = get_or-drop 8 octets 5 0 in
    let b6 = get_or-drop 8 octets 6 0 in
    let b7 = get_or-drop 8 octets 7 0 in
    omega arith

back_16 : (octets : List ℕ) → length octets ≡ 16 → IsOctets octets → to_be_bytes w128 (from_be_bytes w128 octets) ≡ octets
back_16 octets len are =
    let high = from_be_bytes w64 (take 8 octets) in
    let low = from_be_bytes w64 (drop 8 octets) in
    let high_below : high < 2 ^ 64 = wide64.below (take 8 octets) (IsOctets-take 8 octets are) in
    let low_below : low < 2 ^ 64 = wide64.below (drop 8 octets) (IsOctets-drop 8 octets are) in
    let front : to_be_bytes w64 high ≡ take 8 octets = wide64.back (take 8 octets) (omega (arith, length-take 8 octets)) (IsOctets-take 8 octets are) in
    let back : to_be_bytes w64 low ≡ drop 8 octets = wide64.back (drop 8 octets) (omega (arith, length-drop 8 octets)) (IsOctets-drop 8 octets are) in
    ap (to_be_bytes w128) (from_high_and_low octets) ∙ high_and_low (high * 2 ^ 64 + low)
    ∙ ap (λ (n : ℕ). to_be_bytes w64 n ++ to_be_bytes w64 ((high * 2 ^ 64 + low) % 2 ^ 64)) (div-mul-add high (2 ^ 64) low low_below)
    ∙ ap (λ (n : ℕ). to_be_bytes w64 high ++ to_be_bytes w64 n) (omega arith)
    ∙ ap (λ (xs : List ℕ). xs ++ to_be_bytes w64 low) front ∙ ap (λ (xs : List ℕ). take 8 octets ++ xs) back ∙ take-append-drop 8 octets

again_16 : (n : ℕ) → n < 2 ^ 128 → from_be_bytes w128 (to_be_bytes w128 n) ≡ n
again_16 n lt =
    let high = to_be_bytes w64 (n / 2 ^ 64) in
    let low = to_be_bytes w64 (n % 2 ^ 64) in
    let front : from_be_bytes w64 (take 8 (high ++ low)) ≡ n / 2 ^ 64 = ap (from_be_bytes w64) (take_at high low 8 refl) ∙ wide64.again (n / 2 ^ 64) (omega arith) in
    let back : from_be_bytes w64 (drop 8 (high ++ low)) ≡ n % 2 ^ 64 = ap (from_be_bytes w64) (drop_at high low 8 refl) ∙ wide64.again (n % 2 ^ 64) (omega arith) in
    ap (from_be_bytes w128) (high_and_low n) ∙ from_high_and_low (high ++ low) ∙ ap (λ (h : ℕ). h * 2 ^ 64 + from_be_bytes w64 (drop 8 (high ++ low))) front
    ∙ ap (λ (l : ℕ). n / 2 ^ 64 * 2 ^ 64 + l) back ∙ omega arith

below_16 : (octets : List ℕ) → IsOctets octets → from_be_bytes w128 octets < 2 ^ 128
below_16 octets are =
    let high = wide64.below (take 8 octets) (IsOctets-take 8 octets are) in
    let low = wide64.below (drop 8 octets) (IsOctets-drop 8 octets are) in
    subst (λ (n : ℕ). n < 2 ^ 128) (sym (from_high_and_low octets)) (omega arith)

wide128 : IsWide w128
wide128 = record {
  len = λ n. refl;
  back = back_16;
  again = again_16;
  below = below_16;
  signed_fits = λ n lt. record { sfits = grind (arith, ints) };
  unsigned_fits = λ z fits. let s = fits.sfits in grind (arith, ints);
}

-- ---- the leaves' laws

pub exact8 : IsExact (λ n. n < 2 ^ 8) (number w8) (number_at w8)
exact8 = number_exact w8 wide8

pub exact16 : IsExact (λ n. n < 2 ^ 16) (number w16) (number_at w16)
exact16 = number_exact w16 wide16

pub exact32 : IsExact (λ n. n < 2 ^ 32) (number w32) (number_at w32)
exact32 = number_exact w32 wide32

pub exact64 : IsExact (λ n. n < 2 ^ 64) (number w64) (number_at w64)
exact64 = number_exact w64 wide64

pub exact_i64 : IsExact (FitsSigned w64) (signed w64) (signed_at w64)
exact_i64 = signed_exact w64 wide64

pub exact_i128 : IsExact (FitsSigned w128) (signed w128) (signed_at w128)
exact_i128 = signed_exact w128 wide128

pub exact_name : IsExact (λ octets. length octets < 2 ^ 8) name name_at
unfolding name name_at
exact_name = IsExact-mapped (IsExact-both exact8 (λ n _. IsExact-octets n)) (λ octets. length octets < 2 ^ 8) (λ p. p.1) (λ octets. (length octets, octets))
    (λ p fits. (subst (λ (n : ℕ). n < 2 ^ 8) (sym fits.1) fits.0, ap (λ (n : ℕ). (n, p.1)) fits.1)) (λ octets fits. ((fits, refl), refl))

module _ {A : Type 0} {Fits : A → Type 0} {spell : A → List ℕ} {read : Reader A} (exact : IsExact Fits spell read) where
  counted_exact : (w : Width) → IsExact (λ n. n < 2 ^ bits w) (number w) (number_at w) → IsExact (λ items. (length items < 2 ^ bits w) × AllByRecursion Fits items) (counted w spell) (counted_at w read)
  unfolding counted counted_at
  counted_exact w count = IsExact-mapped (IsExact-both count (λ n _. IsExact-times exact n)) (λ items. (length items < 2 ^ bits w) × AllByRecursion Fits items) (λ p. p.1) (λ items. (length items, items))
      (λ p fits. ((subst (λ (n : ℕ). n < 2 ^ bits w) (sym fits.1.0) fits.0, fits.1.1), ap (λ (n : ℕ). (n, p.1)) fits.1.0)) (λ items fits. ((fits.0, (refl, fits.1)), refl))

  pub exact_counted8 : IsExact (λ items. (length items < 2 ^ 8) × AllByRecursion Fits items) (counted w8 spell) (counted_at w8 read)
  exact_counted8 = counted_exact w8 exact8

  pub exact_counted16 : IsExact (λ items. (length items < 2 ^ 16) × AllByRecursion Fits items) (counted w16 spell) (counted_at w16 read)
  exact_counted16 = counted_exact w16 exact16

  pub exact_counted32 : IsExact (λ items. (length items < 2 ^ 32) × AllByRecursion Fits items) (counted w32 spell) (counted_at w32 read)
  exact_counted32 = counted_exact w32 exact32

-- ---- one of several kinds

module _ {A : Type 0} {MayFollow : List ℕ → Type 0} {Fits : A → Type 0} {spell : A → List ℕ} (code : A → ℕ) (readers : ℕ → Reader A) where
  pub IsExact-kind : ((a : A) → Fits a → code a < 2 ^ 8) → ((kind : ℕ) → IsExactBefore MayFollow (λ a. Fits a × (code a ≡ kind)) spell (readers kind)) →
      IsExactBefore MayFollow Fits (λ a. number w8 (code a) ++ spell a) (kind_at readers)
  IsExact-kind below exact = record {
    takes = λ octets x are e.
        let p = bind_some (number_at w8 octets) (λ kind. readers kind.0 kind.1) x e in
        let t = exact8.takes octets p.0 are p.1 in
        let u = (exact p.0.0).takes p.0.1 x (rest_octets (number w8 p.0.0) p.0.1 (subst IsOctets t.0 are)) p.2 in
        (t.0 ∙ ap (λ (r : List ℕ). number w8 p.0.0 ++ r) u.0 ∙ ap (λ (k : ℕ). number w8 k ++ (spell x.0 ++ x.1)) (sym u.1.1) ∙ sym (append_assoc (number w8 (code x.0)) (spell x.0) x.1), u.1.0);
    again = λ a rest may fits.
        rw (append_assoc (number w8 (code a)) (spell a) rest, exact8.again (code a) (spell a ++ rest) tt (below a fits)) ((exact (code a)).again a rest may (fits, refl));
  }
