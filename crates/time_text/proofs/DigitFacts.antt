-- Digits at their places, and texts of a shape.
use Rattle.std.proofs.Common.{◌≡◌, ℕ, zero, suc, ◌+◌, ◌-◌, ◌^◌, ◌/◌, ◌%◌, ◌<◌, ◌≤◌, ◌&&◌, Bool, true, eqb, List, [], ◌∷◌, ◌++◌, length, take, drop, get_or, refl, sym, ap, ◌∙◌, arith, add-one, drop-cons, length-take}
use Rattle.std.specs.Prelude.{slice_range, codes}
use Rattle.std.specs.List.{list_all}
use Rattle.std.proofs.lemmas.Bool.{and_parts, and_from, le-leb, cond-true}
use Rattle.std.proofs.Math.Nat.{pow-le-pow_right}
use Rattle.time_text.specs.Digits.{fits_shape, has_shape, two_digits_of, three_digits_of, four_digits_of}
use Rattle.text_forms.specs.Digits.{is_digit, decimal_value}

-- one place of a shape
pub has_shape_next : (shape text : List ℕ) (i : ℕ) → i < length shape → i < length text → has_shape (drop i shape) (drop i text) ≡ (fits_shape (get_or shape i 0) (get_or text i 0) && has_shape (drop (i + 1) shape) (drop (i + 1) text))
unfolding has_shape
has_shape_next shape text i s t =
    rw (add-one, drop-cons shape i 0, drop-cons text i 0) refl

pub has_shape-length : (shape text : List ℕ) → has_shape shape text ≡ true → length shape ≡ length text
unfolding has_shape
has_shape-length [] [] h = refl
has_shape-length [] (octet ∷ text) h = cc
has_shape-length (place ∷ shape) [] h = cc
has_shape-length (place ∷ shape) (octet ∷ text) h =
    ap suc (has_shape-length shape text (and_parts (fits_shape place octet) _ h).1)

pub has_shape_none : has_shape [] [] ≡ true
unfolding has_shape
has_shape_none = refl

-- more digits than there are places for 15 of them
pub below_pow : (n i : ℕ) → n < 10 ^ i → i ≤ 15 → n < 1_000_000_000_000_000
below_pow n i small few =
    let most : 10 ^ i ≤ 10 ^ 15 = pow-le-pow_right (omega arith) few in
    omega arith

pub has_shape-take : (shape text : List ℕ) (n : ℕ) → has_shape shape text ≡ true → has_shape (take n shape) (take n text) ≡ true
unfolding has_shape
has_shape-take shape text zero h = refl
has_shape-take [] [] (suc n) h = refl
has_shape-take [] (octet ∷ text) (suc n) h = cc
has_shape-take (place ∷ shape) [] (suc n) h = cc
has_shape-take (place ∷ shape) (octet ∷ text) (suc n) h =
    let both = and_parts (fits_shape place octet) _ h in
    and_from _ _ both.0 (has_shape-take shape text n both.1)

pub has_shape-drop : (shape text : List ℕ) (n : ℕ) → has_shape shape text ≡ true → has_shape (drop n shape) (drop n text) ≡ true
unfolding has_shape
has_shape-drop shape text zero h = h
has_shape-drop [] [] (suc n) h = refl
has_shape-drop [] (octet ∷ text) (suc n) h = cc
has_shape-drop (place ∷ shape) [] (suc n) h = cc
has_shape-drop (place ∷ shape) (octet ∷ text) (suc n) h =
    has_shape-drop shape text n (and_parts (fits_shape place octet) _ h).1

-- a shape of nothing but digits
abbrev pub is_zero : ℕ → Bool
is_zero place = eqb place 48

pub digits_from_shape : (shape text : List ℕ) → has_shape shape text ≡ true → list_all is_zero shape ≡ true → list_all is_digit text ≡ true
unfolding has_shape
digits_from_shape [] [] h zeros = refl
digits_from_shape [] (octet ∷ text) h zeros = cc
digits_from_shape (place ∷ shape) [] h zeros = cc
digits_from_shape (place ∷ shape) (octet ∷ text) h zeros =
    let both = and_parts (fits_shape place octet) _ h in
    let first = and_parts (is_zero place) _ zeros in
    and_from _ _ (sym (cond-true (is_zero place) (is_digit octet) (eqb octet place) first.0) ∙ both.0) (digits_from_shape shape text both.1 first.1)

pub digits_within : (shape text : List ℕ) (i j : ℕ) → has_shape shape text ≡ true → list_all is_zero (slice_range shape i j) ≡ true → list_all is_digit (slice_range text i j) ≡ true
digits_within shape text i j h zeros =
    digits_from_shape _ _ (has_shape-take (drop i shape) (drop i text) (j - i) (has_shape-drop shape text i h)) zeros

-- a text that fits the front of a shape of digits
digits_from_front : (shape text : List ℕ) → has_shape (take (length text) shape) text ≡ true → list_all is_zero shape ≡ true → list_all is_digit text ≡ true
unfolding has_shape
digits_from_front shape [] h zeros = refl
digits_from_front [] (octet ∷ text) h zeros = cc
digits_from_front (place ∷ shape) (octet ∷ text) h zeros =
    let both = and_parts (fits_shape place octet) _ h in
    let first = and_parts (is_zero place) _ zeros in
    and_from _ _ (sym (cond-true (is_zero place) (is_digit octet) (eqb octet place) first.0) ∙ both.0) (digits_from_front shape text both.1 first.1)

pub fraction_digits : (text : List ℕ) → has_shape (take (length text) (codes ".000")) text ≡ true → list_all is_digit (drop 1 text) ≡ true
unfolding has_shape
fraction_digits [] h = refl
fraction_digits (octet ∷ text) h =
    digits_from_front (codes "000") text (and_parts (fits_shape 46 octet) _ h).1 refl

pub fraction_length : (text : List ℕ) → has_shape (take (length text) (codes ".000")) text ≡ true → length text ≤ 4
fraction_length text h =
    omega (arith, has_shape-length _ text h, length-take (length text) (codes ".000"))

-- what is written with all its digits is the number, and fits their places
pub decimal_value-two_digits_of : (n : ℕ) → decimal_value (two_digits_of n) ≡ n
decimal_value-two_digits_of n = omega arith

pub decimal_value-three_digits_of : (n : ℕ) → decimal_value (three_digits_of n) ≡ n
decimal_value-three_digits_of n = omega arith

pub decimal_value-four_digits_of : (n : ℕ) → decimal_value (four_digits_of n) ≡ n
decimal_value-four_digits_of n = omega arith

is_digit-of : (n : ℕ) → n < 10 → is_digit (48 + n) ≡ true
is_digit-of n less = and_from _ _ (le-leb 48 (48 + n) (omega arith)) (le-leb (48 + n) 57 (omega arith))

pub has_shape-two_digits_of : (n : ℕ) → n < 100 → has_shape (codes "00") (two_digits_of n) ≡ true
unfolding has_shape
has_shape-two_digits_of n less =
    and_from _ _ (is_digit-of (n / 10) (omega arith)) (and_from _ _ (is_digit-of (n % 10) (omega arith)) refl)

pub has_shape-three_digits_of : (n : ℕ) → n < 1_000 → has_shape (codes "000") (three_digits_of n) ≡ true
unfolding has_shape
has_shape-three_digits_of n less =
    and_from _ _ (is_digit-of (n / 100) (omega arith)) (has_shape-two_digits_of (n % 100) (omega arith))

pub has_shape-append : (first second front back : List ℕ) → has_shape first front ≡ true → has_shape second back ≡ true → has_shape (first ++ second) (front ++ back) ≡ true
unfolding has_shape
has_shape-append [] second [] back f s = s
has_shape-append [] second (octet ∷ front) back f s = cc
has_shape-append (place ∷ first) second [] back f s = cc
has_shape-append (place ∷ first) second (octet ∷ front) back f s =
    let both = and_parts (fits_shape place octet) _ f in
    and_from _ _ both.0 (has_shape-append first second front back both.1 s)

pub has_shape-four_digits_of : (n : ℕ) → n < 10_000 → has_shape (codes "0000") (four_digits_of n) ≡ true
has_shape-four_digits_of n less =
    has_shape-append (codes "00") (codes "00") (two_digits_of (n / 100)) (two_digits_of (n % 100)) (has_shape-two_digits_of (n / 100) (omega arith)) (has_shape-two_digits_of (n % 100) (omega arith))
