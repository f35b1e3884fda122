-- Some rows of numbers without gaps.
use Rattle.std.proofs.Common.{◌≡◌, ◌∙◌, ℕ, ℤ, zero, suc, ◌+◌, ◌-◌, ◌*◌, ◌/◌, ◌%◌, ◌^◌, ◌<◌, ◌≤◌, eqb, ltb, List, [], ◌∷◌, ◌++◌, length, map, take, drop, Some, refl, sym, ap, subst, length-append, arith}
use Rattle.std.specs.List.{AllByRecursion}
use Rattle.std.proofs.lemmas.Bool.{eqb-true, ltb-false}
use Rattle.std.proofs.lemmas.List.{length-drop, length-take-le, map_push, take-append-drop}
use Rattle.std.proofs.lemmas.Nat.{pow-add, same_from_place, shl_below, shr_below, shr_split}
use Rattle.octet_fields.specs.Exact.{IsOctets}
use Rattle.octet_fields.proofs.Exact.{guard_some, some_is, test_some}
use Rattle.segment_codec.specs.Bits.{digits_of, number_from_digits, octet_count, packed_at, spare_bits}
use Rattle.segment_codec.specs.RawColumn.{value_above}
use Rattle.segment_codec.proofs.Leaves.{IsOctets-take}
use Rattle.segment_codec.proofs.Numbers.{all_octets, as_number_below, below-append, cut_same, digits_below, length-digits_of, number_from_digits-append, number_from_digits-cons, number_from_digits-digits_of, number_from_digits-nil, number_from_digits-push, one_number}

-- ---- the number of all rows

abbrev AreOf : ℕ → ℕ → List ℕ → Type 0
AreOf w n numbers = (length numbers ≡ n) × AllByRecursion (λ x. x < 2 ^ w) numbers

packed_number : (w n : ℕ) (octets numbers after : List ℕ) → IsOctets octets → packed_at w n octets ≡ Some (numbers, after) →
    AreOf w n numbers × (number_from_digits w numbers * 2 ^ spare_bits (w * n) ≡ number_from_digits 8 (take (octet_count (w * n)) octets))
unfolding packed_at
packed_number w n octets numbers after are e =
    let k = octet_count (w * n) in
    let f = spare_bits (w * n) in
    let front = take k octets in
    let number = number_from_digits 8 front in
    let high = number / 2 ^ f in
    let g = guard_some (ltb (length octets) k) _ (numbers, after) e in
    let h = test_some (eqb (number % 2 ^ f) 0) _ (numbers, after) g.1 in
    let made : List ℕ × List ℕ = (digits_of w n high, drop k octets) in
    let none : number % 2 ^ f ≡ 0 = eqb-true _ _ h.0 in
    let long : length front ≡ k = length-take-le k octets (ltb-false _ _ g.0) in
    let bits : 8 * length front ≡ w * n + f = omega arith in
    let below : number < 2 ^ (w * n + f) = subst (λ (j : ℕ). number < 2 ^ j) bits (as_number_below 8 front (all_octets front (IsOctets-take k octets are))) in
    let back : number_from_digits w (digits_of w n high) ≡ high = number_from_digits-digits_of w n high (shr_below number (w * n) f below) in
    let split : high * 2 ^ f ≡ number = let s = shr_split number f in omega arith in
    subst (λ (y : List ℕ × List ℕ). AreOf w n y.0 × (number_from_digits w y.0 * 2 ^ f ≡ number)) (some_is made (numbers, after) h.1)
    ((length-digits_of w n high, digits_below w n high), ap (λ (m : ℕ). m * 2 ^ f) back ∙ split)

-- ---- three parts of numbers

keeps_take : (w k : ℕ) (xs : List ℕ) → AllByRecursion (λ x. x < 2 ^ w) xs → AllByRecursion (λ x. x < 2 ^ w) (take k xs)
keeps_take w zero xs all = tt
keeps_take w (suc k) [] all = tt
keeps_take w (suc k) (x ∷ xs) all = (all.0, keeps_take w k xs all.1)

keeps_drop : (w k : ℕ) (xs : List ℕ) → AllByRecursion (λ x. x < 2 ^ w) xs → AllByRecursion (λ x. x < 2 ^ w) (drop k xs)
keeps_drop w zero xs all = all
keeps_drop w (suc k) [] all = tt
keeps_drop w (suc k) (x ∷ xs) all = keeps_drop w k xs all.1

-- numbers as those before, those in, and those behind some rows
parts_number : (w f : ℕ) (xs ys zs : List ℕ) →
    number_from_digits w (xs ++ (ys ++ zs)) * 2 ^ f ≡ (number_from_digits w xs * 2 ^ (w * length ys) + number_from_digits w ys) * 2 ^ (w * length zs + f) + number_from_digits w zs * 2 ^ f
parts_number w f xs ys zs =
    let sum : w * length (ys ++ zs) ≡ w * length ys + w * length zs = ap (λ (n : ℕ). w * n) (length-append ys zs) ∙ (omega arith) in
    let power : 2 ^ (w * length (ys ++ zs)) ≡ 2 ^ (w * length ys) * 2 ^ (w * length zs) = ap (λ (n : ℕ). 2 ^ n) sum ∙ pow-add 2 (w * length ys) (w * length zs) in
    let scaled = ap (λ (p : ℕ). number_from_digits w xs * p) power in
    let whole : number_from_digits w (xs ++ (ys ++ zs)) ≡ (number_from_digits w xs * 2 ^ (w * length ys) + number_from_digits w ys) * 2 ^ (w * length zs) + number_from_digits w zs =
    number_from_digits-append w xs (ys ++ zs) ∙ ap (λ (n : ℕ). number_from_digits w xs * 2 ^ (w * length (ys ++ zs)) + n) (number_from_digits-append w ys zs) ∙ (omega arith) in
    ap (λ (n : ℕ). n * 2 ^ f) whole ∙ rw (pow-add 2 (w * length zs) f) (omega arith)

high_number : (h c u m l : ℕ) → h * 2 ^ (c + u) + (m * 2 ^ u + l) ≡ (h * 2 ^ c + m) * 2 ^ u + l
high_number h c u m l = let power = ap (λ (p : ℕ). h * p) (pow-add 2 c u) in omega arith

-- the numbers that were read behind some others are the numbers of their rows
pub rows_are : (w n first count : ℕ) (octets numbers after read : List ℕ) (high unread low : ℕ) → IsOctets octets → packed_at w n octets ≡ Some (numbers, after) → first + count ≤ n →
    length read ≡ count → AllByRecursion (λ x. x < 2 ^ w) read → unread + w * (first + count) ≡ 8 * octet_count (w * n) → low < 2 ^ unread →
    high * 2 ^ (w * count + unread) + (number_from_digits w read * 2 ^ unread + low) ≡ number_from_digits 8 (take (octet_count (w * n)) octets) → read ≡ take count (drop first numbers)
rows_are w n first count octets numbers after read high unread low are e within len fits bits below sum =
    let f = spare_bits (w * n) in
    let p = packed_number w n octets numbers after are e in
    let xs = take first numbers in
    let rest = drop first numbers in
    let ys = take count rest in
    let zs = drop count rest in
    let long : length rest ≡ n - first = length-drop first numbers ∙ ap (λ (k : ℕ). k - first) p.0.0 in
    let ys_long : length ys ≡ count = length-take-le count rest (omega (arith, long)) in
    let zs_long : length zs ≡ n - first - count = length-drop count rest ∙ ap (λ (k : ℕ). k - count) long in
    let whole : xs ++ (ys ++ zs) ≡ numbers = ap (λ (l : List ℕ). xs ++ l) (take-append-drop count rest) ∙ take-append-drop first numbers in
    let all : n ≡ first + count + length zs = omega (arith, zs_long) in
    let product : w * n ≡ w * (first + count) + w * length zs = ap (λ (k : ℕ). w * k) all ∙ (omega arith) in
    let u : unread ≡ w * length zs + f = omega (arith, bits, product) in
    let ys_fit = keeps_take w count rest (keeps_drop w first numbers p.0.1) in
    let zs_fit = keeps_drop w count rest (keeps_drop w first numbers p.0.1) in
    let least : number_from_digits w zs * 2 ^ f < 2 ^ unread = subst (λ (k : ℕ). number_from_digits w zs * 2 ^ f < 2 ^ k) (sym u) (shl_below (number_from_digits w zs) (w * length zs) f (as_number_below w zs zs_fit)) in
    let there : (number_from_digits w xs * 2 ^ (w * count) + number_from_digits w ys) * 2 ^ unread + number_from_digits w zs * 2 ^ f ≡ number_from_digits 8 (take (octet_count (w * n)) octets) =
    subst (λ (k : ℕ). (number_from_digits w xs * 2 ^ (w * count) + number_from_digits w ys) * 2 ^ k + number_from_digits w zs * 2 ^ f ≡ number_from_digits 8 (take (octet_count (w * n)) octets)) (sym u)
    (subst (λ (k : ℕ). (number_from_digits w xs * 2 ^ (w * k) + number_from_digits w ys) * 2 ^ (w * length zs + f) + number_from_digits w zs * 2 ^ f ≡ number_from_digits 8 (take (octet_count (w * n)) octets)) ys_long
    (sym (parts_number w f xs ys zs) ∙ ap (λ (l : List ℕ). number_from_digits w l * 2 ^ f) whole ∙ p.1)) in
    let here : (high * 2 ^ (w * count) + number_from_digits w read) * 2 ^ unread + low ≡ number_from_digits 8 (take (octet_count (w * n)) octets) = sym (high_number high (w * count) unread (number_from_digits w read) low) ∙ sum in
    let upper = same_from_place (high * 2 ^ (w * count) + number_from_digits w read) low (number_from_digits w xs * 2 ^ (w * count) + number_from_digits w ys) (number_from_digits w zs * 2 ^ f) (2 ^ unread) below least (here ∙ sym there) in
    let read_below : number_from_digits w read < 2 ^ (w * count) = subst (λ (k : ℕ). number_from_digits w read < 2 ^ (w * k)) len (as_number_below w read fits) in
    let ys_below : number_from_digits w ys < 2 ^ (w * count) = subst (λ (k : ℕ). number_from_digits w ys < 2 ^ (w * k)) ys_long (as_number_below w ys ys_fit) in
    let same = same_from_place high (number_from_digits w read) (number_from_digits w xs) (number_from_digits w ys) (2 ^ (w * count)) read_below ys_below upper.0 in
    one_number w read ys (len ∙ sym ys_long) fits ys_fit same.1

-- ---- while they're read

-- numbers were read behind others, and these bits are ahead
pub record AreReadBehind (w : ℕ) (low : ℤ) (count bits unread whole : ℕ) (values : List ℤ) (read : List ℕ) : Type 0 where
  pub count_is : length read ≡ count
  pub below : AllByRecursion (λ x. x < 2 ^ w) read
  pub values_are : values ≡ map (value_above low) read
  pub ahead : (high : ℕ) × (high * 2 ^ (w * count + bits) + (number_from_digits w read * 2 ^ bits + unread) ≡ whole)

pub none_read : (w : ℕ) (low : ℤ) (bits unread whole high : ℕ) (values : List ℤ) → values ≡ [] → high * 2 ^ bits + unread ≡ whole → AreReadBehind w low 0 bits unread whole values []
none_read w low bits unread whole high values none sum =
    let nothing : w * 0 + bits ≡ bits = omega arith in
    record {
      count_is = refl;
      below = tt;
      values_are = none;
      ahead = (high, rw (nothing, number_from_digits-nil w) (omega (arith, sum)));
    }

pub one_read : (w : ℕ) (low : ℤ) (i bits bits_after unread unread_after whole : ℕ) (values after : List ℤ) (read : List ℕ) (n : ℕ) (value : ℤ) → AreReadBehind w low i bits unread whole values read → n < 2 ^ w → bits ≡ bits_after + w →
    n * 2 ^ bits_after + unread_after ≡ unread → after ≡ values ++ value ∷ [] → value ≡ value_above low n → AreReadBehind w low (i + 1) bits_after unread_after whole after (read ++ n ∷ [])
one_read w low i bits bits_after unread unread_after whole values after read n value before lt is same pushed value_is =
    let a = before.ahead in
    let sum : w * (i + 1) + bits_after ≡ w * i + bits = omega arith in
    let power : number_from_digits w read * 2 ^ bits ≡ number_from_digits w read * (2 ^ bits_after * 2 ^ w) = ap (λ (k : ℕ). number_from_digits w read * 2 ^ k) is ∙ ap (λ (p : ℕ). number_from_digits w read * p) (pow-add 2 bits_after w) in
    let step : number_from_digits w (read ++ n ∷ []) * 2 ^ bits_after + unread_after ≡ number_from_digits w read * 2 ^ bits + unread = ap (λ (k : ℕ). k * 2 ^ bits_after + unread_after) (number_from_digits-push w read n) ∙ (omega (arith, power, same)) in
    record {
      count_is = length-append read (n ∷ []) ∙ ap (λ (k : ℕ). k + 1) before.count_is;
      below = below-append w read n before.below lt;
      values_are = pushed ∙ ap (λ (vs : List ℤ). vs ++ value ∷ []) before.values_are ∙ ap (λ (v : ℤ). map (value_above low) read ++ v ∷ []) value_is ∙ sym (map_push (value_above low) read n);
      ahead = (a.0, ap (λ (k : ℕ). a.0 * 2 ^ k + (number_from_digits w (read ++ n ∷ []) * 2 ^ bits_after + unread_after)) sum ∙ ap (λ (k : ℕ). a.0 * 2 ^ (w * i + bits) + k) step ∙ a.1);
    }

-- ---- what stands behind so many bits

pub octets_behind_bits : (front after : List ℕ) (octet s : ℕ) → s ≤ 8 →
    (number_from_digits 8 front * 2 ^ (8 - s) + octet / 2 ^ s) * 2 ^ (s + 8 * length after) + (octet % 2 ^ s * 2 ^ (8 * length after) + number_from_digits 8 after) ≡ number_from_digits 8 (front ++ (octet ∷ after))
octets_behind_bits front after octet s le =
    let l = length after in
    let a = number_from_digits 8 after in
    let cut = cut_same octet s l a in
    let longer : 8 * suc l ≡ 8 - s + (s + 8 * l) = omega arith in
    let power : 2 ^ (8 * suc l) ≡ 2 ^ (8 - s) * 2 ^ (s + 8 * l) = ap (λ (k : ℕ). 2 ^ k) longer ∙ pow-add 2 (8 - s) (s + 8 * l) in
    let scaled = ap (λ (p : ℕ). number_from_digits 8 front * p) power in
    let whole = number_from_digits-append 8 front (octet ∷ after) in
    let tail = number_from_digits-cons 8 octet after in
    omega (arith, cut, scaled, whole, tail)
