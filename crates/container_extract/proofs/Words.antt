-- A field in eight octets of a packet, which are read as one word.
use Rattle.std.proofs.Common.{◌≡◌, ◌∙◌, ◌+◌, ◌-◌, ◌*◌, ◌/◌, ◌%◌, ◌^◌, ◌<◌, ◌≤◌, ℕ, List, [], ◌∷◌, ◌++◌, length, take, drop, ap, sym, arith, length-drop, length-take, bit_and}
use Rattle.std.specs.List.{All}
use Rattle.std.specs.Int.{w64, from_be_bytes}
use Rattle.std.proofs.Math.Nat.{add-mul}
use Rattle.std.proofs.lemmas.List.{take-append-drop}
use Rattle.std.proofs.lemmas.List.Elements.{All-drop}
use Rattle.std.proofs.lemmas.Nat.{and_mask, div-mul-add, pow-add, pow_pos}
use Rattle.container_extract.specs.Bits.{field_at, big_endian_number}
use Rattle.container_extract.proofs.Numbers.{field_within}

pub word_is : (xs : List ℕ) → length xs ≡ 8 → from_be_bytes w64 xs ≡ big_endian_number xs
word_is [] e = absurd (omega (arith, e))
word_is (a ∷ []) e = absurd (omega (arith, e))
word_is (a ∷ (b ∷ [])) e = absurd (omega (arith, e))
word_is (a ∷ (b ∷ (c ∷ []))) e = absurd (omega (arith, e))
word_is (a ∷ (b ∷ (c ∷ (d ∷ [])))) e = absurd (omega (arith, e))
word_is (a ∷ (b ∷ (c ∷ (d ∷ (f ∷ []))))) e = absurd (omega (arith, e))
word_is (a ∷ (b ∷ (c ∷ (d ∷ (f ∷ (g ∷ [])))))) e = absurd (omega (arith, e))
word_is (a ∷ (b ∷ (c ∷ (d ∷ (f ∷ (g ∷ (h ∷ []))))))) e = absurd (omega (arith, e))
word_is (a ∷ (b ∷ (c ∷ (d ∷ (f ∷ (g ∷ (h ∷ (i ∷ [])))))))) e = omega arith
word_is (a ∷ (b ∷ (c ∷ (d ∷ (f ∷ (g ∷ (h ∷ (i ∷ (j ∷ more))))))))) e = absurd (omega (arith, e))

-- the field of a packet is that of eight octets that hold it
pub window_field : (packet : List ℕ) (at w start : ℕ) → All (λ octet. octet < 256) packet → start + 8 ≤ length packet → 8 * start ≤ at → at - 8 * start + w ≤ 64
    → field_at packet at w ≡ big_endian_number (take 8 (drop start packet)) / 2 ^ (64 - (at - 8 * start + w)) % 2 ^ w
window_field packet at w start small inside le fits =
    let a = take start packet in
    let m = take 8 (drop start packet) in
    let z = drop 8 (drop start packet) in
    let o = at - 8 * start in
    let s = 64 - (o + w) in
    let parts : a ++ (m ++ z) ≡ packet = ap (λ (xs : List ℕ). a ++ xs) (take-append-drop 8 (drop start packet)) ∙ take-append-drop start packet in
    let behind : All (λ octet. octet < 256) z = All-drop (λ (x : ℕ). x < 256) 8 (drop start packet) (All-drop (λ (x : ℕ). x < 256) start packet small) in
    let long_a : length a ≡ start = omega (arith, length-take start packet) in
    let long_m : length m ≡ 8 = omega (arith, length-take 8 (drop start packet), length-drop start packet) in
    let bits : 8 * length m ≡ o + (w + s) = omega arith in
    let place : at ≡ 8 * length a + o = omega arith in
    sym (ap (λ (xs : List ℕ). field_at xs at w) parts) ∙ field_within a m z at w s o behind bits place

-- the highest word, shifted, has so many ones
ones : (w : ℕ) → w ≤ 64 → 18446744073709551615 / 2 ^ (64 - w) ≡ 2 ^ w - 1
ones w le =
    let p = 2 ^ (64 - w) in
    let k = 2 ^ w - 1 in
    let some : 0 < 2 ^ w = pow_pos w in
    let more : 0 < p = pow_pos (64 - w) in
    let up : 2 ^ w ≡ k + 1 = omega arith in
    let sum : w + (64 - w) ≡ 64 = omega arith in
    let whole : 2 ^ w * p ≡ 18446744073709551616 = sym (pow-add 2 w (64 - w)) ∙ ap (λ (j : ℕ). 2 ^ j) sum in
    let split : 2 ^ w * p ≡ k * p + 1 * p = ap (λ (x : ℕ). x * p) up ∙ add-mul k 1 p in
    let is : 18446744073709551615 ≡ k * p + (p - 1) = omega arith in
    ap (λ (n : ℕ). n / p) is ∙ div-mul-add k p (p - 1) (omega arith)

pub masked_field : (number w : ℕ) → w ≤ 64 → bit_and number (18446744073709551615 / 2 ^ (64 - w)) ≡ number % 2 ^ w
masked_field number w le = ap (bit_and number) (ones w le) ∙ and_mask number w
