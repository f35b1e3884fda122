-- Octets as one number, and the field in it.
use Rattle.std.proofs.Common.{◌≡◌, ◌∙◌, ◌+◌, ◌-◌, ◌*◌, ◌/◌, ◌%◌, ◌^◌, ◌<◌, ◌≤◌, ℕ, zero, suc, List, [], ◌∷◌, ◌++◌, length, take, drop, refl, ap, sym, arith, length-append, length-drop, length-take, subst, bit_and}
use Rattle.std.specs.Prelude.{fold}
use Rattle.std.specs.List.{All}
use Rattle.std.proofs.Math.Nat.{add-mul, mul_assoc, mul_comm, mul-add-mod_self_right, pow-le-pow_right, pow-suc}
use Rattle.std.proofs.lemmas.List.{take-append-drop}
use Rattle.std.proofs.lemmas.List.Elements.{All-drop, All-head, All-tail}
use Rattle.std.proofs.lemmas.List.Sums.{fold-append}
use Rattle.std.proofs.lemmas.Nat.{and_mask, div-mul-add, field_of, mod_below, mul-add-lt, one_shl, pow-add, shr-shr}
use Rattle.container_extract.specs.Bits.{field_at, big_endian_number, reversed}

abbrev next : ℕ → ℕ → ℕ
next number octet = number * 256 + octet

-- a number in front is shifted by the octets behind
number_from : (front : ℕ) (octets : List ℕ) → fold next front octets ≡ front * 256 ^ length octets + big_endian_number octets
number_from front [] = omega arith
number_from front (octet ∷ octets) =
    let p = 256 ^ length octets in
    let here = number_from (front * 256 + octet) octets in
    let alone : big_endian_number (octet ∷ octets) ≡ (0 * 256 + octet) * p + big_endian_number octets = number_from (0 * 256 + octet) octets in
    let up : 256 ^ suc (length octets) ≡ p * 256 = pow-suc 256 (length octets) in
    let split = add-mul (front * 256) octet p in
    let same : front * 256 * p ≡ front * 256 ^ suc (length octets) = mul_assoc front 256 p ∙ ap (λ (n : ℕ). front * n) (mul_comm 256 p ∙ sym up) in
    let none : (0 * 256 + octet) * p ≡ octet * p = ap (λ (n : ℕ). n * p) (omega arith) in
    omega arith

pub number_append : (a b : List ℕ) → big_endian_number (a ++ b) ≡ big_endian_number a * 256 ^ length b + big_endian_number b
number_append a b = fold-append next 0 a b ∙ number_from (big_endian_number a) b

-- octets are below 256 to the power of how many they are
pub number_below : (octets : List ℕ) → All (λ octet. octet < 256) octets → big_endian_number octets < 256 ^ length octets
number_below [] all = omega arith
number_below (octet ∷ octets) all =
    let head = All-head (λ (x : ℕ). x < 256) octet octets all in
    let rest = number_below octets (All-tail (λ (x : ℕ). x < 256) octet octets all) in
    let p = 256 ^ length octets in
    let alone : big_endian_number (octet ∷ octets) ≡ (0 * 256 + octet) * p + big_endian_number octets = number_from (0 * 256 + octet) octets in
    let none : (0 * 256 + octet) * p ≡ octet * p = ap (λ (n : ℕ). n * p) (omega arith) in
    let up : 256 ^ suc (length octets) ≡ p * 256 = pow-suc 256 (length octets) in
    let less : octet * p + big_endian_number octets < p * 256 = mul-add-lt octet p (big_endian_number octets) 256 head rest in
    omega arith

-- 256^n is 2^(8 * n)
pub octets_are_bits : (n : ℕ) → 256 ^ n ≡ 2 ^ (8 * n)
octets_are_bits zero = refl
octets_are_bits (suc n) =
    let m : 8 * suc n ≡ 8 * n + 8 = omega arith in
    pow-suc 256 n ∙ ap (λ (x : ℕ). x * 256) (octets_are_bits n) ∙ sym (pow-add 2 (8 * n) 8) ∙ ap (λ (x : ℕ). 2 ^ x) (sym m)

-- what stands in front of the field's octets doesn't reach the field
front_cleared : (a m s w o : ℕ) → (a * 2 ^ (o + (w + s)) + m) / 2 ^ s % 2 ^ w ≡ m / 2 ^ s % 2 ^ w
front_cleared a m s w o =
    let k = w + s in
    let split : a * 2 ^ (o + k) ≡ a * 2 ^ o * 2 ^ k = ap (λ (x : ℕ). a * x) (pow-add 2 o k) ∙ sym (mul_assoc a (2 ^ o) (2 ^ k)) in
    let gone : (a * 2 ^ (o + k) + m) % 2 ^ k ≡ m % 2 ^ k = ap (λ (x : ℕ). (x + m) % 2 ^ k) split ∙ mul-add-mod_self_right (a * 2 ^ o) (2 ^ k) m in
    sym (field_of (a * 2 ^ (o + k) + m) w s) ∙ ap (λ (x : ℕ). x / 2 ^ s) gone ∙ field_of m w s

-- the field of a packet is that of the octets that it touches
pub field_within : (a m z : List ℕ) (at w s o : ℕ) → All (λ octet. octet < 256) z → 8 * length m ≡ o + (w + s) → at ≡ 8 * length a + o
    → field_at (a ++ (m ++ z)) at w ≡ big_endian_number m / 2 ^ s % 2 ^ w
field_within a m z at w s o small bits is =
    let n = big_endian_number (a ++ (m ++ z)) in
    let whole : n ≡ big_endian_number a * 256 ^ length (m ++ z) + (big_endian_number m * 256 ^ length z + big_endian_number z) = number_append a (m ++ z) ∙ ap (λ (x : ℕ). big_endian_number a * 256 ^ length (m ++ z) + x) (number_append m z) in
    let long : length (m ++ z) ≡ length m + length z = length-append m z in
    let power : 256 ^ length (m ++ z) ≡ 256 ^ length m * 256 ^ length z = ap (λ (x : ℕ). 256 ^ x) long ∙ pow-add 256 (length m) (length z) in
    let lead : big_endian_number a * 256 ^ length (m ++ z) ≡ big_endian_number a * 256 ^ length m * 256 ^ length z = ap (λ (x : ℕ). big_endian_number a * x) power ∙ sym (mul_assoc (big_endian_number a) (256 ^ length m) (256 ^ length z)) in
    let both = add-mul (big_endian_number a * 256 ^ length m) (big_endian_number m) (256 ^ length z) in
    let joined : n ≡ (big_endian_number a * 256 ^ length m + big_endian_number m) * 256 ^ length z + big_endian_number z = omega arith in
    let cut : n / 256 ^ length z ≡ big_endian_number a * 256 ^ length m + big_endian_number m = ap (λ (x : ℕ). x / 256 ^ length z) joined ∙ div-mul-add (big_endian_number a * 256 ^ length m + big_endian_number m) (256 ^ length z) (big_endian_number z) (number_below z small) in
    let all : length (a ++ (m ++ z)) ≡ length a + (length m + length z) = length-append a (m ++ z) ∙ ap (λ (x : ℕ). length a + x) long in
    let shift : 8 * length (a ++ (m ++ z)) - at - w ≡ 8 * length z + s = omega arith in
    let twice : n / 2 ^ (8 * length z + s) ≡ n / 256 ^ length z / 2 ^ s = sym (shr-shr n (8 * length z) s) ∙ ap (λ (x : ℕ). n / x / 2 ^ s) (sym (octets_are_bits (length z))) in
    let front : big_endian_number a * 256 ^ length m ≡ big_endian_number a * 2 ^ (o + (w + s)) = ap (λ (x : ℕ). big_endian_number a * x) (octets_are_bits (length m) ∙ ap (λ (x : ℕ). 2 ^ x) bits) in
    ap (λ (k : ℕ). n / 2 ^ k % 2 ^ w) shift ∙ ap (λ (x : ℕ). x % 2 ^ w) (twice ∙ ap (λ (x : ℕ). x / 2 ^ s) (cut ∙ ap (λ (x : ℕ). x + big_endian_number m) front)) ∙ front_cleared (big_endian_number a) (big_endian_number m) s w o

-- one octet more is swapped
pub swapped_more : (left swapped rest : ℕ) → swapped * 256 ^ suc left + reversed (suc left) rest ≡ (swapped * 256 + rest % 256) * 256 ^ left + reversed left (rest / 256)
swapped_more left swapped rest =
    let p = 256 ^ left in
    let up : 256 ^ suc left ≡ p * 256 = pow-suc 256 left in
    let same : swapped * 256 ^ suc left ≡ swapped * 256 * p = ap (λ (x : ℕ). swapped * x) (up ∙ mul_comm p 256) ∙ sym (mul_assoc swapped 256 p) in
    let split = add-mul (swapped * 256) (rest % 256) p in
    omega arith

pub reversed_below : (octets number : ℕ) → reversed octets number < 256 ^ octets
reversed_below zero number = omega arith
reversed_below (suc octets) number =
    let p = 256 ^ octets in
    let rest = reversed_below octets (number / 256) in
    let low : number % 256 < 256 = mod_below number 256 (omega arith) in
    let up : 256 ^ suc octets ≡ p * 256 = pow-suc 256 octets in
    let less : number % 256 * p + reversed octets (number / 256) < p * 256 = mul-add-lt (number % 256) p (reversed octets (number / 256)) 256 low rest in
    omega arith

-- ---- what the code computes

next_below : (number octet i : ℕ) → number < 256 ^ i → octet < 256 → number * 256 + octet < 256 ^ suc i
next_below number octet i less small = let up : 256 ^ suc i ≡ 256 ^ i * 256 = pow-suc 256 i in omega arith

-- sixteen octets are below 2^128, and eight below 2^64
pub next_of_16 : (number octet i n : ℕ) → number < 256 ^ i → octet < 256 → i < n → n ≤ 16 → number * 256 + octet < 340282366920938463463374607431768211456
next_of_16 number octet i n less small lt few =
    let some : 0 < 256 = omega arith in
    let fits : suc i ≤ 16 = omega arith in
    let top : 256 ^ suc i ≤ 256 ^ 16 = pow-le-pow_right {n = 256} some fits in
    let below = next_below number octet i less small in
    omega arith

pub next_of_8 : (number octet i n : ℕ) → number < 256 ^ i → octet < 256 → i < n → n ≤ 8 → number * 256 + octet < 18446744073709551616
next_of_8 number octet i n less small lt few =
    let some : 0 < 256 = omega arith in
    let fits : suc i ≤ 8 = omega arith in
    let top : 256 ^ suc i ≤ 256 ^ 8 = pow-le-pow_right {n = 256} some fits in
    let below = next_below number octet i less small in
    omega arith

-- the octets that a field touches, shifted and masked
pub field_is : (packet : List ℕ) (at w shifted : ℕ) → All (λ octet. octet < 256) packet → w ≤ 64 → at + w ≤ 8 * length packet
    → shifted ≡ big_endian_number (take ((at + w + 7) / 8 - at / 8) (drop (at / 8) packet)) / 2 ^ (8 * ((at + w + 7) / 8) - (at + w))
    → bit_and shifted (1 * 2 ^ w % 340282366920938463463374607431768211456 - 1) ≡ field_at packet at w
field_is packet at w shifted small narrow inside is =
    let first = at / 8 in
    let end = (at + w + 7) / 8 in
    let s = 8 * end - (at + w) in
    let a = take first packet in
    let m = take (end - first) (drop first packet) in
    let z = drop (end - first) (drop first packet) in
    let parts : a ++ (m ++ z) ≡ packet = ap (λ (xs : List ℕ). a ++ xs) (take-append-drop (end - first) (drop first packet)) ∙ take-append-drop first packet in
    let behind : All (λ octet. octet < 256) z = All-drop (λ (x : ℕ). x < 256) (end - first) (drop first packet) (All-drop (λ (x : ℕ). x < 256) first packet small) in
    let long_a : length a ≡ first = omega (arith, length-take first packet) in
    let long_m : length m ≡ end - first = omega (arith, length-take (end - first) (drop first packet), length-drop first packet) in
    let bits : 8 * length m ≡ at % 8 + (w + s) = omega arith in
    let place : at ≡ 8 * length a + at % 8 = omega arith in
    let there : field_at (a ++ (m ++ z)) at w ≡ big_endian_number m / 2 ^ s % 2 ^ w = field_within a m z at w s (at % 8) behind bits place in
    let mask : 1 * 2 ^ w % 340282366920938463463374607431768211456 ≡ 2 ^ w = one_shl w 128 (omega arith) in
    ap (λ (x : ℕ). bit_and shifted (x - 1)) mask ∙ and_mask shifted w ∙ ap (λ (x : ℕ). x % 2 ^ w) is ∙ sym there ∙ ap (λ (xs : List ℕ). field_at xs at w) parts

-- one octet more of a number that is swapped
pub swapped_below : (swapped rest i : ℕ) → swapped < 256 ^ i → swapped * 256 + rest % 256 < 256 ^ (i + 1)
swapped_below swapped rest i less =
    let low : rest % 256 < 256 = mod_below rest 256 (omega arith) in
    let at : suc i ≡ i + 1 = omega arith in
    subst (λ (k : ℕ). swapped * 256 + rest % 256 < 256 ^ k) at (next_below swapped (rest % 256) i less low)

pub swapped_step : (octets number swapped rest i : ℕ) → i < octets → reversed octets number ≡ swapped * 256 ^ (octets - i) + reversed (octets - i) rest
    → reversed octets number ≡ (swapped * 256 + rest % 256) * 256 ^ (octets - (i + 1)) + reversed (octets - (i + 1)) (rest / 256)
swapped_step octets number swapped rest i lt e =
    let left = octets - (i + 1) in
    let at : octets - i ≡ suc left = omega arith in
    e ∙ ap (λ (k : ℕ). swapped * 256 ^ k + reversed k rest) at ∙ swapped_more left swapped rest

pub swapped_whole : (octets number swapped rest i : ℕ) → octets ≤ i → reversed octets number ≡ swapped * 256 ^ (octets - i) + reversed (octets - i) rest → swapped ≡ reversed octets number
swapped_whole octets number swapped rest i ge e =
    let at : octets - i ≡ 0 = omega arith in
    let none : swapped * 256 ^ 0 + reversed 0 rest ≡ swapped = omega arith in
    sym (e ∙ ap (λ (k : ℕ). swapped * 256 ^ k + reversed k rest) at ∙ none)
