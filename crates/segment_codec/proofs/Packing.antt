-- Numbers without gaps are read exactly.
use Rattle.std.proofs.Common.{◌≡◌, ℕ, ℤ, ◌+◌, ◌-◌, ◌*◌, ◌/◌, ◌%◌, ◌^◌, ◌<◌, ◌≤◌, Bool, true, false, cond, ltb, eqb, List, [], ◌∷◌, ◌++◌, length, take, drop, Option, Some, None, refl, sym, ap, subst, ◌∙◌, arith}
use Rattle.std.specs.Prelude.{map, max, ◌||◌}
use Rattle.std.specs.List.{AllByRecursion, list_any}
use Rattle.std.specs.Ordering.{nat_cmp, ord_max}
use Rattle.std.proofs.lemmas.Bool.Decides.{nat_tests}
use Rattle.std.proofs.lemmas.Bool.{ltb-false, le-ltb, lt-ltb, eqb-true}
use Rattle.std.proofs.lemmas.List.{take_at, drop_at, take-append-drop, length-take-le, length-append, map_push, nil_from_length}
use Rattle.std.proofs.lemmas.List.Folds.{list_any-append}
use Rattle.std.proofs.lemmas.List.Sums.{fold-append}
use Rattle.std.proofs.lemmas.Nat.{pow-add, pow_pos, shl_below, shr_below, shr_split, mod_low, shr_high}
use Rattle.octet_fields.specs.Exact.{IsOctets, IsExact}
use Rattle.octet_fields.specs.Reading.{mapped_at}
use Rattle.octet_fields.proofs.Exact.{some_is}
use Rattle.segment_codec.specs.Bits.{number_from_digits, digits_of, octet_count, packed, packed_at, spare_bits}
use Rattle.segment_codec.specs.RawColumn.{greatest, unpacked, value_above}
use Rattle.segment_codec.specs.declared.unpack.Unpacked.{Unpacked}
use Rattle.segment_codec.proofs.Leaves.{IsOctets-take}
use Rattle.segment_codec.proofs.Numbers.{number_from_digits-nil, number_from_digits-push, as_number_below, below-append, length-digits_of, digits_below, number_from_digits-digits_of, digits_of-number_from_digits, all_octets, octets_are}

guard_some : {A : Type 0} (b : Bool) (x : Option A) (y : A) → cond b None x ≡ Some y → (b ≡ false) × (x ≡ Some y)
guard_some true x y e = absurd cc
guard_some false x y e = (refl, e)

if_some : {A : Type 0} (b : Bool) (x y : A) → ◌≡◌ {A = Option A} (cond b (Some x) None) (Some y) → (b ≡ true) × (x ≡ y)
if_some true x y e = (refl, some_is x y e)
if_some false x y e = absurd cc

-- the octets of a whole number of units
pub front_is : (w n : ℕ) (front : List ℕ) → length front ≡ octet_count (w * n) → IsOctets front → number_from_digits 8 front % 2 ^ spare_bits (w * n) ≡ 0 →
    packed w (digits_of w n (number_from_digits 8 front / 2 ^ spare_bits (w * n))) ≡ front
unfolding packed
front_is w n front len are none =
    let f = spare_bits (w * n) in
    let number = number_from_digits 8 front in
    let high = number / 2 ^ f in
    let count = length-digits_of w n high in
    let below : number < 2 ^ (w * n + f) = let e : 8 * length front ≡ w * n + f = omega arith in subst (λ (k : ℕ). number < 2 ^ k) e (as_number_below 8 front (all_octets front are)) in
    let back : number_from_digits w (digits_of w n high) ≡ high = number_from_digits-digits_of w n high (shr_below number (w * n) f below) in
    let split : high * 2 ^ f ≡ number = let s = shr_split number f in omega arith in
    subst (λ (k : ℕ). digits_of 8 (octet_count (w * k)) (number_from_digits w (digits_of w n high) * 2 ^ spare_bits (w * k)) ≡ front) (sym count)
    (ap (λ (m : ℕ). digits_of 8 (octet_count (w * n)) (m * 2 ^ f)) back ∙ ap (digits_of 8 (octet_count (w * n))) split ∙ ap (λ (k : ℕ). digits_of 8 k number) (sym len) ∙ octets_are front are)

abbrev Fit : ℕ → ℕ → List ℕ → Type 0
Fit w n numbers = (length numbers ≡ n) × AllByRecursion (λ x. x < 2 ^ w) numbers

takes : (w n : ℕ) (octets : List ℕ) (x : List ℕ × List ℕ) → IsOctets octets → packed_at w n octets ≡ Some x → (octets ≡ packed w x.0 ++ x.1) × Fit w n x.0
unfolding packed_at
takes w n octets x are e =
    let k = octet_count (w * n) in
    let front = take k octets in
    let number = number_from_digits 8 front in
    let g = guard_some (ltb (length octets) k) _ x e in
    let h = if_some (eqb (number % 2 ^ spare_bits (w * n)) 0) (digits_of w n (number / 2 ^ spare_bits (w * n)), drop k octets) x g.1 in
    let long : k ≤ length octets = ltb-false _ _ g.0 in
    let whole = front_is w n front (length-take-le k octets long) (IsOctets-take k octets are) (eqb-true _ _ h.0) in
    subst (λ (y : List ℕ × List ℕ). (octets ≡ packed w y.0 ++ y.1) × Fit w n y.0) h.1
    (sym (take-append-drop k octets) ∙ ap (λ (l : List ℕ). l ++ drop k octets) (sym whole), (length-digits_of w n (number / 2 ^ spare_bits (w * n)), digits_below w n (number / 2 ^ spare_bits (w * n))))

-- what the bits behind the numbers are
read_back : (w n : ℕ) (octets numbers : List ℕ) (b : ℕ) → octet_count (w * n) ≤ length octets → Fit w n numbers → b < 2 ^ spare_bits (w * n) →
    number_from_digits w numbers * 2 ^ spare_bits (w * n) + b ≡ number_from_digits 8 (take (octet_count (w * n)) octets) →
    packed_at w n octets ≡ cond (eqb b 0) (Some (numbers, drop (octet_count (w * n)) octets)) None
unfolding packed_at
read_back w n octets numbers b long fit below sum =
    let k = octet_count (w * n) in
    let f = spare_bits (w * n) in
    let number = number_from_digits 8 (take k octets) in
    let test : ltb (length octets) k ≡ false = le-ltb _ _ long in
    let low : number % 2 ^ f ≡ b = rw (← sum) (mod_low (number_from_digits w numbers) f b below) in
    let high : number / 2 ^ f ≡ number_from_digits w numbers = rw (← sum) (shr_high (number_from_digits w numbers) f b below) in
    let same : digits_of w n (number_from_digits w numbers) ≡ numbers = ap (λ (j : ℕ). digits_of w j (number_from_digits w numbers)) (sym fit.0) ∙ digits_of-number_from_digits w numbers fit.1 in
    rw (test, low, high, same) refl

again_len : (w : ℕ) (numbers rest : List ℕ) → AllByRecursion (λ x. x < 2 ^ w) numbers → packed_at w (length numbers) (packed w numbers ++ rest) ≡ Some (numbers, rest)
unfolding packed
again_len w numbers rest fit =
    let n = length numbers in
    let k = octet_count (w * n) in
    let f = spare_bits (w * n) in
    let whole = number_from_digits w numbers * 2 ^ f in
    let text = digits_of 8 k whole in
    let len : length text ≡ k = length-digits_of 8 k whole in
    let e : w * n + f ≡ 8 * k = omega arith in
    let below : whole < 2 ^ (8 * k) = subst (λ (j : ℕ). whole < 2 ^ j) e (shl_below (number_from_digits w numbers) (w * n) f (as_number_below w numbers fit)) in
    let back : number_from_digits 8 (take k (text ++ rest)) ≡ whole = ap (number_from_digits 8) (take_at text rest k len) ∙ number_from_digits-digits_of 8 k whole below in
    let long : k ≤ length (text ++ rest) = omega (arith, length-append text rest) in
    let sum : whole + 0 ≡ number_from_digits 8 (take k (text ++ rest)) = omega arith in
    read_back w n (text ++ rest) numbers 0 long (refl, fit) (pow_pos f) sum ∙ ap (λ (r : List ℕ). Some (numbers, r)) (drop_at text rest k len)

again : (w n : ℕ) (numbers rest : List ℕ) → Fit w n numbers → packed_at w n (packed w numbers ++ rest) ≡ Some (numbers, rest)
again w n numbers rest fit = subst (λ (k : ℕ). packed_at w k (packed w numbers ++ rest) ≡ Some (numbers, rest)) fit.0 (again_len w numbers rest fit.1)

pub packed_exact : (w n : ℕ) → IsExact (λ (numbers : List ℕ). (length numbers ≡ n) × AllByRecursion (λ x. x < 2 ^ w) numbers) (packed w) (packed_at w n)
packed_exact w n = record { takes = takes w n; again = λ numbers rest may fit. again w n numbers rest fit }

-- what the loop that reads ends with
pub all_read : (w n : ℕ) (octets numbers rest : List ℕ) (b c : ℕ) → octet_count (w * n) ≤ length octets → length numbers ≡ n → AllByRecursion (λ x. x < 2 ^ w) numbers → b < 2 ^ c →
    c + 8 * length rest + w * n ≡ 8 * octet_count (w * n) → number_from_digits w numbers * 2 ^ (c + 8 * length rest) + (b * 2 ^ (8 * length rest) + number_from_digits 8 rest) ≡ number_from_digits 8 (take (octet_count (w * n)) octets) →
    packed_at w n octets ≡ cond (eqb b 0) (Some (numbers, drop (octet_count (w * n)) octets)) None
all_read w n octets numbers rest b c long len fit below bits sum =
    let none : rest ≡ [] = nil_from_length rest (omega arith) in
    let f : c ≡ spare_bits (w * n) = let z = ap length none in omega arith in
    let z : number_from_digits w numbers * 2 ^ (c + 8 * 0) + (b * 2 ^ (8 * 0) + number_from_digits 8 []) ≡ number_from_digits 8 (take (octet_count (w * n)) octets) = rw none at sum in
    let nil = number_from_digits-nil 8 in
    let sum_too : number_from_digits w numbers * 2 ^ c + b ≡ number_from_digits 8 (take (octet_count (w * n)) octets) = (let zero_more : c + 8 * 0 ≡ c = omega arith in let y = rw zero_more at z in omega arith) in
    read_back w n octets numbers b long (len, fit) (subst (λ (k : ℕ). b < 2 ^ k) f below) (subst (λ (k : ℕ). number_from_digits w numbers * 2 ^ k + b ≡ number_from_digits 8 (take (octet_count (w * n)) octets)) f sum_too)

-- one number more
pub read_more : (w c d l : ℕ) (numbers : List ℕ) (number a m t : ℕ) → d ≡ c + w → a * 2 ^ d + m ≡ t → number * 2 ^ c + l ≡ m → number_from_digits w numbers ≡ a → number_from_digits w (numbers ++ number ∷ []) * 2 ^ c + l ≡ t
read_more w c d l numbers number a m t is e f g =
    let power : a * 2 ^ d ≡ a * (2 ^ c * 2 ^ w) = ap (λ (k : ℕ). a * 2 ^ k) is ∙ ap (λ (p : ℕ). a * p) (pow-add 2 c w) in
    rw (number_from_digits-push w numbers number, g) (omega arith)

pub wide_same : (high low r1 r2 n0 n1 n2 : ℕ) → r1 ≡ r2 + 64 → high * 2 ^ r1 + n1 ≡ n0 → low * 2 ^ r2 + n2 ≡ n1 → (high * 2 ^ 64 + low) * 2 ^ r2 + n2 ≡ n0
wide_same high low r1 r2 n0 n1 n2 is e f =
    let power : high * 2 ^ r1 ≡ high * (2 ^ r2 * 2 ^ 64) = ap (λ (k : ℕ). high * 2 ^ k) is ∙ ap (λ (p : ℕ). high * p) (pow-add 2 r2 64) in
    omega arith

pub wide_below : (high low w : ℕ) → 64 < w → high < 2 ^ (w - 64) → low < 2 ^ 64 → high * 2 ^ 64 + low < 2 ^ w
wide_below high low w lt h l =
    let k : w ≡ w - 64 + 64 = omega arith in
    let power : 2 ^ w ≡ 2 ^ (w - 64) * 2 ^ 64 = ap (λ (j : ℕ). 2 ^ j) k ∙ pow-add 2 (w - 64) 64 in
    omega arith

pub too_short : (w n : ℕ) (octets : List ℕ) → length octets < octet_count (w * n) → packed_at w n octets ≡ None
unfolding packed_at
too_short w n octets lt = rw (lt-ltb (length octets) (octet_count (w * n)) lt) refl

pub read_none : (w a l m : ℕ) → a ≡ 0 → l ≡ m → a * 2 ^ (0 + 8 * w) + (0 * 2 ^ (8 * w) + l) ≡ m
read_none w a l m e f = rw e (omega arith)

pub not_zero : (b : ℕ) → (b ≡ 0 → ⊥) → eqb b 0 ≡ false
not_zero b h = grind arith

-- ---- what is kept of the numbers

-- the numbers that were read so far, what is ahead of the octets' number, and what was kept
pub record AreUnpacked (w : ℕ) (low : ℤ) (n bits unread whole : ℕ) (values : List ℤ) (top : ℕ) (has_zero : Bool) (numbers : List ℕ) : Type 0 where
  pub count : length numbers ≡ n
  pub below : AllByRecursion (λ x. x < 2 ^ w) numbers
  pub ahead : number_from_digits w numbers * 2 ^ bits + unread ≡ whole
  pub values_are : values ≡ map (value_above low) numbers
  pub top_is : top ≡ greatest numbers
  pub zero_is : has_zero ≡ list_any (λ d. eqb d 0) numbers

or_false : (b : Bool) → (b || false) ≡ b
or_false true = refl
or_false false = refl

pub max_is : (a b : ℕ) → ord_max nat_cmp a b ≡ max a b
max_is a b = grind (arith, nat_tests)

greatest_push : (numbers : List ℕ) (n : ℕ) → greatest (numbers ++ n ∷ []) ≡ max (greatest numbers) n
greatest_push numbers n = fold-append max 0 numbers (n ∷ [])

zero_push : (numbers : List ℕ) (n : ℕ) → list_any (λ d. eqb d 0) (numbers ++ n ∷ []) ≡ (list_any (λ d. eqb d 0) numbers || eqb n 0)
zero_push numbers n = list_any-append (λ d. eqb d 0) numbers (n ∷ []) ∙ ap (λ (b : Bool). list_any (λ d. eqb d 0) numbers || b) (or_false (eqb n 0))

pub unpacks_one_more : (w : ℕ) (low : ℤ) (i bits bits_after unread unread_after whole : ℕ) (values after : List ℤ) (top top_after : ℕ) (zero zero_after : Bool) (numbers : List ℕ) (n : ℕ) (value : ℤ) →
    AreUnpacked w low i bits unread whole values top zero numbers → n < 2 ^ w → bits ≡ bits_after + w → n * 2 ^ bits_after + unread_after ≡ unread →
    after ≡ values ++ value ∷ [] → value ≡ value_above low n → top_after ≡ max top n → zero_after ≡ (zero || eqb n 0) →
    AreUnpacked w low (i + 1) bits_after unread_after whole after top_after zero_after (numbers ++ n ∷ [])
unpacks_one_more w low i bits bits_after unread unread_after whole values after top top_after zero zero_after numbers n value before lt is same pushed value_is tops zeros =
    record {
      count = length-append numbers (n ∷ []) ∙ (let e = before.count in omega arith);
      below = below-append w numbers n before.below lt;
      ahead = read_more w bits_after bits unread_after numbers n _ unread whole is before.ahead same refl;
      values_are = pushed ∙ ap (λ (vs : List ℤ). vs ++ value ∷ []) before.values_are ∙ ap (λ (v : ℤ). map (value_above low) numbers ++ v ∷ []) value_is ∙ sym (map_push (value_above low) numbers n);
      top_is = tops ∙ ap (λ (t : ℕ). max t n) before.top_is ∙ sym (greatest_push numbers n);
      zero_is = zeros ∙ ap (λ (b : Bool). b || eqb n 0) before.zero_is ∙ sym (zero_push numbers n);
    }

abbrev pub kept_as : List ℤ → ℕ → Bool → Unpacked
kept_as values top has_zero = record { values = values; top = top; has_zero = has_zero }

-- what the loop ends with, where no bits are left
pub unpacks_all : (w i n : ℕ) (low : ℤ) (octets rest : List ℕ) (bits unread whole : ℕ) (values : List ℤ) (top : ℕ) (zero : Bool) (numbers : List ℕ) →
    AreUnpacked w low i bits unread whole values top zero numbers → packed_at w n octets ≡ Some (numbers, rest) → mapped_at (unpacked low) (packed_at w n) octets ≡ Some (kept_as values top zero, rest)
unpacks_all w i n low octets rest bits unread whole values top zero numbers are read = rw (read, are.values_are, are.top_is, are.zero_is) refl

pub unpacks_none : (w n : ℕ) (low : ℤ) (octets : List ℕ) → packed_at w n octets ≡ None → mapped_at (unpacked low) (packed_at w n) octets ≡ None
unpacks_none w n low octets none = rw none refl
