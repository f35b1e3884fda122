-- Eight octets in one word.
use Rattle.std.proofs.Common.{◌≡◌, ℕ, zero, suc, ◌+◌, ◌-◌, ◌*◌, ◌/◌, ◌%◌, ◌^◌, ◌<◌, ◌≤◌, cond, List, [], ◌∷◌, ◌++◌, length, drop, take, get_or, Some, refl, sym, ap, subst, ◌∙◌, arith, lit≤, inl, inr}
use Rattle.std.specs.List.{position_or_len}
use Rattle.std.specs.Int.Bits.{bit_and, bit_xor, and_zero_r, xor_self}
use Rattle.std.specs.Int.Count.{count_trailing_zeros}
use Rattle.std.proofs.lemmas.List.{append_cancel_right}
use Rattle.std.proofs.lemmas.Bool.{cases_lt, lt-ltb, le-ltb}
use Rattle.std.proofs.lemmas.Nat.{and-not, and_mask, and_block, mod-pow-add, pow-add, pow_pos, xor_block}
use Rattle.std.proofs.lemmas.Nat.Bits.{and_pow}
use Rattle.std.proofs.Math.Nat.{mod-add-div', pow-suc}
use Rattle.varints.specs.Varint.{is_short, short_varint_at, varint, varint_at}
use Rattle.varints.specs.Words.{ends, fourteens, is_last, joined, little_endian, octets_of, sevens}
use Rattle.varints.proofs.Varints.{short_varint_exact, varint_exact}

-- no octet but the first of some is looked at
pub little_endian_front : (n : ℕ) (octets : List ℕ) → little_endian n (take n octets) ≡ little_endian n octets
unfolding little_endian
little_endian_front zero octets = refl
little_endian_front (suc n) [] = refl
little_endian_front (suc n) (octet ∷ rest) = ap (λ (high : ℕ). octet + 256 * high) (little_endian_front n rest)

-- ---- groups of seven bits

-- a mask of two lanes
and_lane : (k n low high : ℕ) → low < 2 ^ k → bit_and n (high * 2 ^ k + low) ≡ bit_and (n / 2 ^ k) high * 2 ^ k + bit_and (n % 2 ^ k) low
and_lane k n low high lt =
    ap (λ (m : ℕ). bit_and m (high * 2 ^ k + low)) (omega (arith, mod-add-div' n (2 ^ k))) ∙ and_block k (n / 2 ^ k) high (n % 2 ^ k) low (omega arith) lt

pub sevens_masked : (word : ℕ) → bit_and word 0x007f_007f_007f_007f ≡ sevens word
sevens_masked word =
    let a : bit_and word 0x007f_007f_007f_007f ≡ bit_and (word / 0x1_0000) 0x007f_007f_007f * 0x1_0000 + bit_and (word % 0x1_0000) 0x7f = and_lane 16 word 0x7f 0x007f_007f_007f (lit≤ tt) in
    let b : bit_and (word / 0x1_0000) 0x007f_007f_007f ≡ bit_and (word / 0x1_0000 / 0x1_0000) 0x007f_007f * 0x1_0000 + bit_and (word / 0x1_0000 % 0x1_0000) 0x7f = and_lane 16 (word / 0x1_0000) 0x7f 0x007f_007f (lit≤ tt) in
    let d : bit_and (word / 0x1_0000 / 0x1_0000) 0x007f_007f ≡ bit_and (word / 0x1_0000 / 0x1_0000 / 0x1_0000) 0x7f * 0x1_0000 + bit_and (word / 0x1_0000 / 0x1_0000 % 0x1_0000) 0x7f = and_lane 16 (word / 0x1_0000 / 0x1_0000) 0x7f 0x7f (lit≤ tt) in
    let one : bit_and (word % 0x1_0000) 0x7f ≡ word % 0x1_0000 % 0x80 = and_mask (word % 0x1_0000) 7 in
    let two : bit_and (word / 0x1_0000 % 0x1_0000) 0x7f ≡ word / 0x1_0000 % 0x1_0000 % 0x80 = and_mask (word / 0x1_0000 % 0x1_0000) 7 in
    let three : bit_and (word / 0x1_0000 / 0x1_0000 % 0x1_0000) 0x7f ≡ word / 0x1_0000 / 0x1_0000 % 0x1_0000 % 0x80 = and_mask (word / 0x1_0000 / 0x1_0000 % 0x1_0000) 7 in
    let four : bit_and (word / 0x1_0000 / 0x1_0000 / 0x1_0000) 0x7f ≡ word / 0x1_0000 / 0x1_0000 / 0x1_0000 % 0x80 = and_mask (word / 0x1_0000 / 0x1_0000 / 0x1_0000) 7 in
    omega arith

pub fourteens_masked : (word : ℕ) → bit_and word 0x0000_3fff_0000_3fff ≡ fourteens word
fourteens_masked word =
    let a : bit_and word 0x0000_3fff_0000_3fff ≡ bit_and (word / 0x1_0000_0000) 0x3fff * 0x1_0000_0000 + bit_and (word % 0x1_0000_0000) 0x3fff = and_lane 32 word 0x3fff 0x3fff (lit≤ tt) in
    let one : bit_and (word % 0x1_0000_0000) 0x3fff ≡ word % 0x1_0000_0000 % 0x4000 = and_mask (word % 0x1_0000_0000) 14 in
    let two : bit_and (word / 0x1_0000_0000) 0x3fff ≡ word / 0x1_0000_0000 % 0x4000 = and_mask (word / 0x1_0000_0000) 14 in
    omega arith

-- ---- where a varint ends

-- the top bit of each of so many octets
unfoldable tops : ℕ → ℕ
tops zero = 0
tops (suc n) = tops n * 2 ^ 8 + 128

top_bit : (octet : ℕ) → octet < 256 → bit_and octet 128 + cond (is_last octet) 128 0 ≡ 128
top_bit octet below =
    let bit : bit_and octet 128 ≡ octet / 128 % 2 * 128 = and_pow octet 7 in
    elim (cases_lt octet 128) [
      | inl lt ↦ rw (lt-ltb octet 128 lt) (omega arith)
      | inr le ↦ rw (le-ltb octet 128 le) (omega arith)
    ]

tops_masked : (n word : ℕ) → bit_and word (tops n) + ends n word ≡ tops n
unfolding tops ends
tops_masked zero word = rw and_zero_r refl
tops_masked (suc n) word =
    let lanes : bit_and word (tops n * 2 ^ 8 + 128) ≡ bit_and (word / 2 ^ 8) (tops n) * 2 ^ 8 + bit_and (word % 2 ^ 8) 128 = and_lane 8 word 128 (tops n) (lit≤ tt) in
    let more : bit_and (word / 256) (tops n) + ends n (word / 256) ≡ tops n = tops_masked n (word / 256) in
    let here : bit_and (word % 256) 128 + cond (is_last (word % 256)) 128 0 ≡ 128 = top_bit (word % 256) (omega arith) in
    omega arith

eight_tops : tops 8 ≡ 0x8080_8080_8080_8080
unfolding tops
eight_tops = refl

pub ends_masked : (word : ℕ) → word < 2 ^ 64 → bit_and (2 ^ 64 - 1 - word) 0x8080_8080_8080_8080 ≡ ends 8 word
ends_masked word lt =
    let both = and-not 64 word 0x8080_8080_8080_8080 lt (lit≤ tt) in
    let masked : bit_and word 0x8080_8080_8080_8080 + ends 8 word ≡ 0x8080_8080_8080_8080 = subst (λ (m : ℕ). bit_and word m + ends 8 word ≡ m) eight_tops (tops_masked 8 word) in
    omega arith

-- ---- its lowest bit that is set, and the bits up to it

zeros_behind : (j k n : ℕ) → count_trailing_zeros (j + k) (n * 2 ^ j) ≡ j + count_trailing_zeros k n
unfolding count_trailing_zeros
zeros_behind zero k n =
    let none : 0 + k ≡ k = omega arith in
    let whole : n * 2 ^ 0 ≡ n = omega arith in
    rw (none, whole) (omega arith)
zeros_behind (suc j) k n =
    let even : n * 2 ^ suc j % 2 ≡ 0 = rw (pow-suc 2 j) (omega arith) in
    let half : n * 2 ^ suc j / 2 ≡ n * 2 ^ j = rw (pow-suc 2 j) (omega arith) in
    let wide : suc j + k ≡ suc (j + k) = omega arith in
    rw wide (rw (even, half) (ap (λ (m : ℕ). suc m) (zeros_behind j k n) ∙ omega arith))

none_behind : (k n : ℕ) → n % 2 ≡ 1 → count_trailing_zeros (suc k) n ≡ 0
unfolding count_trailing_zeros
none_behind k n odd = rw odd refl

end_here : (n found more : ℕ) → found ≡ more * 2 ^ 8 + 128 → (count_trailing_zeros (8 * suc n) found ≡ 7) × (bit_xor found (found - 1) ≡ 255)
end_here n found more e =
    let zeros : count_trailing_zeros (7 + suc (8 * n)) ((more * 2 + 1) * 2 ^ 7) ≡ 7 + count_trailing_zeros (suc (8 * n)) (more * 2 + 1) = zeros_behind 7 (suc (8 * n)) (more * 2 + 1) in
    let none : count_trailing_zeros (suc (8 * n)) (more * 2 + 1) ≡ 0 = none_behind (8 * n) (more * 2 + 1) (omega arith) in
    let less : found - 1 ≡ more * 2 ^ 8 + 127 = omega arith in
    let place : found ≡ (more * 2 + 1) * 2 ^ 7 = omega arith in
    let wide : 8 * suc n ≡ 7 + suc (8 * n) = omega arith in
    let lanes : bit_xor (more * 2 ^ 8 + 128) (more * 2 ^ 8 + 127) ≡ bit_xor more more * 2 ^ 8 + 255 = xor_block 8 more more 128 127 (lit≤ tt) (lit≤ tt) in
    let same : bit_xor more more ≡ 0 = xor_self more in (
      ap (λ (w : ℕ). count_trailing_zeros w found) wide ∙ ap (count_trailing_zeros (7 + suc (8 * n))) place ∙ zeros ∙ omega (arith, none),
      ap (bit_xor found) less ∙ ap (λ (f : ℕ). bit_xor f (more * 2 ^ 8 + 127)) e ∙ lanes ∙ omega (arith, same),
    )

end_behind : (n found more last : ℕ) → found ≡ more * 2 ^ 8 → 0 < more → count_trailing_zeros (8 * n) more ≡ 8 * last + 7 → bit_xor more (more - 1) ≡ 2 ^ (8 * suc last) - 1 →
    (count_trailing_zeros (8 * suc n) found ≡ 8 * suc last + 7) × (bit_xor found (found - 1) ≡ 2 ^ (8 * suc (suc last)) - 1)
end_behind n found more last e some zeros mask =
    let wide : 8 * suc n ≡ 8 + 8 * n = omega arith in
    let less : found - 1 ≡ (more - 1) * 2 ^ 8 + 255 = omega arith in
    let place : found ≡ more * 2 ^ 8 + 0 = omega arith in
    let power : 2 ^ (8 * suc (suc last)) ≡ 2 ^ (8 * suc last) * 2 ^ 8 = ap (λ (k : ℕ). 2 ^ k) (omega arith) ∙ pow-add 2 (8 * suc last) 8 in
    let lanes : bit_xor (more * 2 ^ 8 + 0) ((more - 1) * 2 ^ 8 + 255) ≡ bit_xor more (more - 1) * 2 ^ 8 + 255 = xor_block 8 more (more - 1) 0 255 (lit≤ tt) (lit≤ tt) in
    let positive = pow_pos (8 * suc last) in (
      ap (λ (w : ℕ). count_trailing_zeros w found) wide ∙ ap (count_trailing_zeros (8 + 8 * n)) e ∙ zeros_behind 8 (8 * n) more ∙ omega (arith, zeros),
      ap (bit_xor found) less ∙ ap (λ (f : ℕ). bit_xor f ((more - 1) * 2 ^ 8 + 255)) place ∙ lanes ∙ omega (arith, mask, power, positive),
    )

-- of some octets one ends a varint, and the first that does is at the lowest bit
pub record IsFirstEnd (n last : ℕ) (octets : List ℕ) (found : ℕ) : Type 0 where
  pub within : last < n
  pub place : position_or_len is_last (take n octets) ≡ last
  pub zeros : count_trailing_zeros (8 * n) found ≡ 8 * last + 7
  pub mask : bit_xor found (found - 1) ≡ 2 ^ (8 * suc last) - 1

first_more : (n last found more octet : ℕ) (rest : List ℕ) → 128 ≤ octet → found ≡ more * 2 ^ 8 → 0 < more → IsFirstEnd n last rest more → IsFirstEnd (suc n) (suc last) (octet ∷ rest) found
first_more n last found more octet rest large whole some is =
    let behind = end_behind n found more last whole some is.zeros is.mask in
    let within = is.within in
    let place = is.place in
    record {
      within = omega arith;
      place = rw (le-ltb octet 128 large) (omega (arith, place));
      zeros = behind.0;
      mask = behind.1;
    }

pub first_end : (n : ℕ) (octets : List ℕ) (found : ℕ) → ((i : ℕ) → get_or octets i 0 < 256) → n ≤ length octets → found ≡ ends n (little_endian n octets) → 0 < found → (last : ℕ) × IsFirstEnd n last octets found
unfolding ends little_endian
first_end zero octets found are le e some = absurd (omega arith)
first_end (suc n) [] found are le e some = absurd (omega arith)
first_end (suc n) (octet ∷ rest) found are le e some =
    let high = little_endian n rest in
    let below : octet < 256 = are 0 in
    let low : (octet + 256 * high) % 256 ≡ octet = omega arith in
    let others : (octet + 256 * high) / 256 ≡ high = omega arith in
    let parts : found ≡ cond (is_last octet) 128 0 + 256 * ends n high = rw (low, others) at e in
    elim (cases_lt octet 128) [
      | inl lt ↦
          let test = lt-ltb octet 128 lt in
          let here = end_here n found (ends n high) (rw test at parts ∙ omega arith) in
          (0, record { within = omega arith; place = rw test refl; zeros = here.0; mask = here.1 })
      | inr large ↦
          let test = le-ltb octet 128 large in
          let whole : found ≡ ends n high * 2 ^ 8 = rw test at parts ∙ omega arith in
          let more = first_end n rest (ends n high) (λ i. are (suc i)) (omega arith) refl (omega arith) in
          (suc more.0, first_more n more.0 found (ends n high) octet rest large whole (omega arith) more.1)
    ]

-- what four pairs of seven bits come to
pairs_joined : (two a b c d : ℕ) → a < 0x4000 → b < 0x4000 → c < 0x4000 → d < 0x4000 → two ≡ a + 0x1_0000 * b + 0x1_0000_0000 * c + 0x1_0000_0000_0000 * d →
    fourteens two + fourteens (two / 0x1_0000) * 0x4000 ≡ a + 0x4000 * b + 0x1_0000_0000 * (c + 0x4000 * d)
pairs_joined two a b c d pa pb pc pd e =
    let first : two % 0x4000 ≡ a = omega arith in
    let second : two / 0x1_0000 ≡ b + 0x1_0000 * c + 0x1_0000_0000 * d = omega arith in
    let third : two / 0x1_0000_0000 ≡ c + 0x1_0000 * d = omega arith in
    let fourth : two / 0x1_0000 / 0x1_0000_0000 ≡ d = omega arith in
    omega arith

halves_joined : (four low high : ℕ) → low < 0x1000_0000 → four ≡ low + 0x1_0000_0000 * high → four % 0x1_0000_0000 + four / 0x1_0000_0000 * 0x1000_0000 ≡ low + 0x1000_0000 * high
halves_joined four low high lt e = omega arith

-- two groups of each 16 bits
abbrev pair : ℕ → ℕ
pair word = word % 128 + 128 * (word / 256 % 128)

pairs_of : (word : ℕ) → sevens word + sevens (word / 0x100) * 0x80 ≡
    pair word + 0x1_0000 * pair (word / 0x1_0000) + 0x1_0000_0000 * pair (word / 0x1_0000_0000) + 0x1_0000_0000_0000 * pair (word / 0x1_0000_0000_0000)
pairs_of word = omega arith

eight_joined : (word : ℕ) → joined 8 word ≡
    pair word + 0x4000 * pair (word / 0x1_0000) + 0x1000_0000 * (pair (word / 0x1_0000_0000) + 0x4000 * pair (word / 0x1_0000_0000_0000))
unfolding joined
eight_joined word = omega arith

pair_below : (word : ℕ) → pair word < 0x4000
pair_below word = omega arith

pub joined_in_steps : (word : ℕ) →
    let two = sevens word + sevens (word / 0x100) * 0x80 in
    let four = fourteens two + fourteens (two / 0x1_0000) * 0x4000 in
    four % 0x1_0000_0000 + four / 0x1_0000_0000 * 0x1000_0000 ≡ joined 8 word
joined_in_steps word =
    let a = pair word in
    let b = pair (word / 0x1_0000) in
    let c = pair (word / 0x1_0000_0000) in
    let d = pair (word / 0x1_0000_0000_0000) in
    let two = sevens word + sevens (word / 0x100) * 0x80 in
    let four = fourteens two + fourteens (two / 0x1_0000) * 0x4000 in
    let pa : a < 0x4000 = pair_below _ in
    let pb : b < 0x4000 = pair_below _ in
    halves_joined four (a + 0x4000 * b) (c + 0x4000 * d) (omega arith)
    (pairs_joined two a b c d pa pb (pair_below _) (pair_below _) (pairs_of word))
    ∙ sym (eight_joined word)

-- ---- the first of its octets

-- so many octets, the first alone
word_cut : (k word : ℕ) → (word % 2 ^ (8 * suc k) % 256 ≡ word % 256) × (word % 2 ^ (8 * suc k) / 256 ≡ word / 256 % 2 ^ (8 * k))
word_cut k word =
    let cut : word % 2 ^ (8 * suc k) ≡ (word / 256 % 2 ^ (8 * k)) * 256 + word % 256 = ap (λ (e : ℕ). word % 2 ^ e) (omega arith) ∙ mod-pow-add word (8 * k) 8 in
    (omega (arith, cut), omega (arith, cut))

octets_cut : (k word : ℕ) → octets_of k (word % 2 ^ (8 * k)) ≡ octets_of k word
unfolding octets_of
octets_cut zero word = refl
octets_cut (suc k) word = let cut = word_cut k word in rw (cut.0, cut.1, octets_cut k (word / 256)) refl

joined_zero : (n : ℕ) → joined n 0 ≡ 0
unfolding joined
joined_zero zero = refl
joined_zero (suc n) = omega (arith, joined_zero n)

joined_cut : (n k word : ℕ) → k ≤ n → joined n (word % 2 ^ (8 * k)) ≡ joined k word
unfolding joined
joined_cut n zero word le = ap (joined n) (omega arith) ∙ joined_zero n
joined_cut zero (suc k) word le = absurd (omega arith)
joined_cut (suc n) (suc k) word le =
    let cut = word_cut k word in
    let seven : word % 2 ^ (8 * suc k) % 128 ≡ word % 128 = omega (arith, cut.0) in
    rw (seven, cut.1, joined_cut n k (word / 256) (omega arith)) refl

-- where one is zero, those up to it are a number below its weight
last_zero : (n last : ℕ) (octets : List ℕ) → ((i : ℕ) → get_or octets i 0 < 256) → n ≤ length octets → last < n → get_or octets last 0 ≡ 0 → little_endian n octets % 2 ^ (8 * suc last) < 2 ^ (8 * last)
unfolding little_endian
last_zero zero last octets are long lt none = absurd (omega arith)
last_zero (suc n) zero octets are long lt none =
    let byte : 2 ^ (8 * suc 0) ≡ 256 = refl in
    let one : 2 ^ (8 * 0) ≡ 1 = refl in
    rw (byte, one, none) (omega arith)
last_zero (suc n) (suc last) [] are long lt none = absurd (omega arith)
last_zero (suc n) (suc last) (octet ∷ rest) are long lt none =
    let high = little_endian n rest in
    let cut = word_cut (suc last) (octet + 256 * high) in
    let below : octet < 256 = are 0 in
    let others : (octet + 256 * high) / 256 ≡ high = omega arith in
    let more : high % 2 ^ (8 * suc last) < 2 ^ (8 * last) = last_zero n last rest (λ i. are (suc i)) (omega arith) (omega arith) none in
    let power : 2 ^ (8 * suc last) ≡ 2 ^ (8 * last) * 2 ^ 8 = ap (λ (k : ℕ). 2 ^ k) (omega arith) ∙ pow-add 2 (8 * last) 8 in
    let first : (octet + 256 * high) % 2 ^ (8 * suc (suc last)) / 256 ≡ high % 2 ^ (8 * suc last) = cut.1 ∙ ap (λ (m : ℕ). m % 2 ^ (8 * suc last)) others in
    omega (arith, first, more, power)

-- octets begin with those of the number that they are
octets_front : (k n : ℕ) (octets : List ℕ) → ((i : ℕ) → get_or octets i 0 < 256) → k ≤ n → n ≤ length octets → octets ≡ octets_of k (little_endian n octets) ++ drop k octets
unfolding octets_of little_endian
octets_front zero n octets are le long = refl
octets_front (suc k) zero octets are le long = absurd (omega arith)
octets_front (suc k) (suc n) [] are le long = absurd (omega arith)
octets_front (suc k) (suc n) (octet ∷ rest) are le long =
    let high = little_endian n rest in
    let below : octet < 256 = are 0 in
    let low : (octet + 256 * high) % 256 ≡ octet = omega arith in
    let others : (octet + 256 * high) / 256 ≡ high = omega arith in
    rw (low, others) (ap (λ (xs : List ℕ). octet ∷ xs) (octets_front k n rest (λ i. are (suc i)) (omega arith) (omega arith)))

-- ---- a varint of at most eight octets

pub word_reads : (n last : ℕ) (octets : List ℕ) → ((i : ℕ) → get_or octets i 0 < 256) → last < n → n ≤ length octets → position_or_len is_last (take n octets) ≡ last → 0 < get_or octets last 0 →
    (varint_at octets ≡ Some (joined (suc last) (little_endian n octets), drop (suc last) octets)) × (0 < joined (suc last) (little_endian n octets))
unfolding joined little_endian
word_reads zero last octets are lt le e pos = absurd (omega arith)
word_reads (suc n) last [] are lt le e pos = absurd (omega arith)
word_reads (suc n) zero (octet ∷ rest) are lt le e pos =
    elim (cases_lt octet 128) [
      | inl small ↦
          let n : (octet + 256 * little_endian n rest) % 128 + 128 * 0 ≡ octet = omega arith in
          (rw (lt-ltb octet 128 small, n) refl, omega arith)
      | inr large ↦ let none = rw (le-ltb octet 128 large) at e in absurd (omega arith)
    ]
word_reads (suc n) (suc last) (octet ∷ rest) are lt le e pos =
    elim (cases_lt octet 128) [
      | inl small ↦ let none = rw (lt-ltb octet 128 small) at e in absurd (omega arith)
      | inr large ↦
          let behind = rw (le-ltb octet 128 large) at e in
          let more = word_reads n last rest (λ i. are (suc i)) (omega arith) (omega arith) (omega arith) pos in
          let below : octet < 256 = are 0 in
          let high = joined (suc last) (little_endian n rest) in
          let first : (octet + 256 * little_endian n rest) % 128 ≡ octet - 128 = omega arith in
          let others : (octet + 256 * little_endian n rest) / 256 ≡ little_endian n rest = omega arith in
          let positive : 0 < high = more.1 in (
            rw (first, others, le-ltb octet 128 large, more.0, lt-ltb 0 high positive) refl,
            rw others (omega arith),
          )
    ]

-- what is made of a word in which a varint ends
pub record IsSpelled (octets : List ℕ) (number word mask len : ℕ) : Type 0 where
  pub short : len ≤ 8
  pub whole : mask + 1 ≡ 2 ^ (8 * len)
  pub spelled : varint number ≡ octets_of len word
  pub read : varint_at octets ≡ Some (number, drop len octets)

spelled_front : (octets : List ℕ) (found mask : ℕ) → ((i : ℕ) → get_or octets i 0 < 256) → 8 ≤ length octets → found ≡ ends 8 (little_endian 8 octets) → 0 < found → mask ≡ bit_xor found (found - 1) →
    mask / 256 < bit_and (little_endian 8 octets) mask → IsSpelled octets (joined 8 (bit_and (little_endian 8 octets) mask)) (bit_and (little_endian 8 octets) mask) mask (count_trailing_zeros 64 found / 8 + 1)
spelled_front octets found mask are le e some is pos =
    let front = little_endian 8 octets in
    let first = first_end 8 octets found are le e some in
    let last = first.0 in
    let zeros : count_trailing_zeros 64 found ≡ 8 * last + 7 = first.1.zeros in
    let within = first.1.within in
    let len : count_trailing_zeros 64 found / 8 + 1 ≡ suc last = omega (arith, zeros) in
    let ones : mask ≡ 2 ^ (8 * suc last) - 1 = is ∙ first.1.mask in
    let word : bit_and front mask ≡ front % 2 ^ (8 * suc last) = ap (bit_and front) ones ∙ and_mask front (8 * suc last) in
    let power : 2 ^ (8 * suc last) ≡ 2 ^ (8 * last) * 2 ^ 8 = ap (λ (k : ℕ). 2 ^ k) (omega arith) ∙ pow-add 2 (8 * last) 8 in
    let weight = pow_pos (8 * last) in
    let large : 0 < get_or octets last 0 = elim (cases_lt 0 (get_or octets last 0)) [
      | inl lt ↦ lt
      | inr none ↦ let low = last_zero 8 last octets are le within (omega (arith, none)) in absurd (omega (arith, low, word, ones, power, weight, pos))
    ] in
    let reads = word_reads 8 last octets are within le first.1.place large in
    let number : joined 8 (bit_and front mask) ≡ joined (suc last) front = ap (joined 8) word ∙ joined_cut 8 (suc last) front (omega arith) in
    let read : varint_at octets ≡ Some (joined 8 (bit_and front mask), drop (suc last) octets) = reads.0 ∙ ap (λ (n : ℕ). Some (n, drop (suc last) octets)) (sym number) in
    let taken : octets ≡ varint (joined 8 (bit_and front mask)) ++ drop (suc last) octets = (varint_exact.takes octets _ are read).0 in
    let begins : octets ≡ octets_of (suc last) front ++ drop (suc last) octets = octets_front (suc last) 8 octets are (omega arith) le in
    let cut : octets_of (suc last) (bit_and front mask) ≡ octets_of (suc last) front = ap (octets_of (suc last)) word ∙ octets_cut (suc last) front in
    rw len record {
      short = omega arith;
      whole = omega (arith, ones, power, weight);
      spelled = append_cancel_right _ _ (drop (suc last) octets) (sym taken ∙ begins) ∙ sym cut;
      read = read;
    }

pub word_spelled : (octets : List ℕ) (front found number : ℕ) → ((i : ℕ) → get_or octets i 0 < 256) → 8 ≤ length octets → front ≡ little_endian 8 octets → found ≡ ends 8 front → 0 < found →
    bit_xor found (found - 1) / 256 < bit_and front (bit_xor found (found - 1)) → number ≡ joined 8 (bit_and front (bit_xor found (found - 1))) →
    IsSpelled octets number (bit_and front (bit_xor found (found - 1))) (bit_xor found (found - 1)) (count_trailing_zeros 64 found / 8 + 1)
word_spelled octets front found number are le of e some pos is =
    let mask = bit_xor found (found - 1) in
    let made = spelled_front octets found mask are le (e ∙ ap (ends 8) of) some refl (subst (λ (w : ℕ). mask / 256 < bit_and w mask) of pos) in
    rw (is, of) made

-- where the same octets stand at the front, the same number is read
pub spelled_reads : (octets : List ℕ) (number word mask len : ℕ) → ((i : ℕ) → get_or octets i 0 < 256) → 8 ≤ length octets → len ≤ 8 → mask + 1 ≡ 2 ^ (8 * len) → varint number ≡ octets_of len word → number < 2 ^ 64 →
    bit_and (little_endian 8 octets) mask ≡ word → short_varint_at octets ≡ Some (number, drop len octets)
unfolding is_short
spelled_reads octets number word mask len are le short whole spelled lt same =
    let front = little_endian 8 octets in
    let ones : mask ≡ 2 ^ (8 * len) - 1 = omega arith in
    let own : front % 2 ^ (8 * len) ≡ word = sym (ap (bit_and front) ones ∙ and_mask front (8 * len)) ∙ same in
    let begins : octets ≡ octets_of len front ++ drop len octets = octets_front len 8 octets are short le in
    let those : octets_of len front ≡ varint number = sym (octets_cut len front) ∙ ap (octets_of len) own ∙ sym spelled in
    let stands : octets ≡ varint number ++ drop len octets = begins ∙ ap (λ (xs : List ℕ). xs ++ drop len octets) those in
    ap short_varint_at stands ∙ short_varint_exact.again number (drop len octets) tt (tt, lt-ltb number (2 ^ 98) (omega arith))
