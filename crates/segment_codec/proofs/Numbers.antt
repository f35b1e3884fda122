-- Numbers of some width as one number.
use Rattle.std.proofs.Common.{◌≡◌, ℕ, zero, suc, ◌+◌, ◌-◌, ◌*◌, ◌/◌, ◌%◌, ◌^◌, ◌<◌, ◌≤◌, List, [], ◌∷◌, ◌++◌, length, take, drop, get_or, add-one, refl, sym, ap, subst, ◌∙◌, arith, inl, inr}
use Rattle.std.specs.List.{fold, AllByRecursion}
use Rattle.std.specs.Int.{w64, to_be_bytes, from_be_bytes}
use Rattle.std.specs.Int.Bits.{bit_and}
use Rattle.std.proofs.lemmas.List.Sums.{fold-append}
use Rattle.std.proofs.lemmas.Bool.{cases_lt}
use Rattle.std.proofs.lemmas.List.{get_or_past, length-append, length-drop, take-append-drop}
use Rattle.std.proofs.Math.Seq.{take-suc}
use Rattle.std.proofs.Math.Nat.{pow-le-pow_right}
use Rattle.std.proofs.lemmas.Nat.{and_mask, pow-add, pow_pos, shl_whole, shl_below, shr_below, shr_split, mod_below, mul-add-lt, same_from_place, from_be_bytes-to_be_bytes_8, be_bytes_8, pow_below}
use Rattle.segment_codec.specs.Bits.{number_from_digits, digits_of, octet_count, packed, spare_bits}

pow-suc_width : (w k : ℕ) → 2 ^ (w * suc k) ≡ 2 ^ w * 2 ^ (w * k)
pow-suc_width w k = let e : w * suc k ≡ w + w * k = omega arith in ap (λ (j : ℕ). 2 ^ j) e ∙ pow-add 2 w (w * k)

number_from_digits-from : (w a : ℕ) (ys : List ℕ) → fold (λ high digit. high * 2 ^ w + digit) a ys ≡ a * 2 ^ (w * length ys) + number_from_digits w ys
unfolding number_from_digits
number_from_digits-from w a [] =
    let e : w * 0 ≡ 0 = omega arith in
    let z : a ≡ a * 2 ^ (w * 0) + 0 = rw e (omega arith) in
    z
number_from_digits-from w a (y ∷ ys) =
    let step = number_from_digits-from w (a * 2 ^ w + y) ys in
    let zero_high : 0 * 2 ^ w + y ≡ y = omega arith in
    let here : number_from_digits w (y ∷ ys) ≡ y * 2 ^ (w * length ys) + number_from_digits w ys = ap (λ (high : ℕ). fold (λ high digit. high * 2 ^ w + digit) high ys) zero_high ∙ number_from_digits-from w y ys in
    rw (step, here, pow-suc_width w (length ys)) (omega arith)

pub number_from_digits-nil : (w : ℕ) → number_from_digits w [] ≡ 0
unfolding number_from_digits
number_from_digits-nil w = refl

pub number_from_digits-append : (w : ℕ) (xs ys : List ℕ) → number_from_digits w (xs ++ ys) ≡ number_from_digits w xs * 2 ^ (w * length ys) + number_from_digits w ys
unfolding number_from_digits
number_from_digits-append w xs ys = fold-append (λ high digit. high * 2 ^ w + digit) 0 xs ys ∙ number_from_digits-from w (number_from_digits w xs) ys

pub number_from_digits-push : (w : ℕ) (xs : List ℕ) (x : ℕ) → number_from_digits w (xs ++ x ∷ []) ≡ number_from_digits w xs * 2 ^ w + x
unfolding number_from_digits
number_from_digits-push w xs x = fold-append (λ high digit. high * 2 ^ w + digit) 0 xs (x ∷ [])

pub number_from_digits-cons : (w x : ℕ) (xs : List ℕ) → number_from_digits w (x ∷ xs) ≡ x * 2 ^ (w * length xs) + number_from_digits w xs
unfolding number_from_digits
number_from_digits-cons w x xs =
    let zero_high : 0 * 2 ^ w + x ≡ x = omega arith in
    ap (λ (high : ℕ). fold (λ high digit. high * 2 ^ w + digit) high xs) zero_high ∙ number_from_digits-from w x xs

pub as_number_word : (n : ℕ) → n < 2 ^ 64 → number_from_digits 8 (to_be_bytes w64 n) ≡ n
unfolding number_from_digits
as_number_word n lt = let e = from_be_bytes-to_be_bytes_8 n lt in omega arith

-- ---- what writing a number of some width does

pub joined : (b n c w : ℕ) → c < 64 → b < 2 ^ c → w ≤ 64 → n < 2 ^ w → (b * 2 ^ w % 2 ^ 128 ≡ b * 2 ^ w) × (b * 2 ^ w + n < 2 ^ (c + w))
joined b n c w small below narrow fits =
    let whole = shl_whole b c w 128 below (omega arith) in
    let place = mul-add-lt b (2 ^ w) n (2 ^ c) below fits in
    let power = pow-add 2 c w in
    (whole, omega arith)

pub kept : (old : List ℕ) (b n c w : ℕ) → number_from_digits 8 old * 2 ^ (c + w) + (b * 2 ^ w + n) ≡ (number_from_digits 8 old * 2 ^ c + b) * 2 ^ w + n
kept old b n c w = let e = ap (λ (p : ℕ). number_from_digits 8 old * p) (pow-add 2 c w) in omega arith

pub cut : (t s : ℕ) → t < 2 ^ (64 + s) → s ≤ 64 → (t / 2 ^ s < 2 ^ 64) × (t - t / 2 ^ s * 2 ^ s % 2 ^ 128 ≡ t % 2 ^ s) × (t % 2 ^ s < 2 ^ s)
cut t s lt le =
    let high = shr_below t 64 s lt in
    let whole = shl_whole (t / 2 ^ s) 64 s 128 high (omega arith) in
    let split = shr_split t s in
    (high, rw whole (omega arith), mod_below t (2 ^ s) (pow_pos s))

pub written : (old new : List ℕ) (b n c w s t : ℕ) → t ≡ b * 2 ^ w + n → t / 2 ^ s < 2 ^ 64 → c + w ≡ 64 + s → new ≡ old ++ to_be_bytes w64 (t / 2 ^ s) → number_from_digits 8 new * 2 ^ s + t % 2 ^ s ≡ (number_from_digits 8 old * 2 ^ c + b) * 2 ^ w + n
written old new b n c w s t is high sum e =
    let more : number_from_digits 8 new ≡ number_from_digits 8 old * 2 ^ 64 + t / 2 ^ s = rw (e, number_from_digits-append 8 old (to_be_bytes w64 (t / 2 ^ s)), as_number_word (t / 2 ^ s) high) refl in
    let power : 2 ^ 64 * 2 ^ s ≡ 2 ^ c * 2 ^ w = sym (pow-add 2 64 s) ∙ ap (λ (k : ℕ). 2 ^ k) (sym sum) ∙ pow-add 2 c w in
    let scaled = ap (λ (p : ℕ). number_from_digits 8 old * p) power in
    let split = shr_split t s in
    rw more (omega arith)

-- ---- the octets and the digits of a number

pub as_number_below : (w : ℕ) (xs : List ℕ) → AllByRecursion (λ x. x < 2 ^ w) xs → number_from_digits w xs < 2 ^ (w * length xs)
as_number_below w [] fits = rw (number_from_digits-nil w) (pow_pos (w * 0))
as_number_below w (x ∷ xs) fits =
    let more = as_number_below w xs fits.1 in
    let place = mul-add-lt x (2 ^ (w * length xs)) (number_from_digits w xs) (2 ^ w) fits.0 more in
    rw (number_from_digits-cons w x xs, pow-suc_width w (length xs)) (omega arith)

-- digits of one width and count are told by their number
pub one_number : (w : ℕ) (xs ys : List ℕ) → length xs ≡ length ys → AllByRecursion (λ x. x < 2 ^ w) xs → AllByRecursion (λ x. x < 2 ^ w) ys → number_from_digits w xs ≡ number_from_digits w ys → xs ≡ ys
one_number w [] [] len f g e = refl
one_number w [] (y ∷ ys) len f g e = absurd (omega arith)
one_number w (x ∷ xs) [] len f g e = absurd (omega arith)
one_number w (x ∷ xs) (y ∷ ys) len f g e =
    let same_len : length xs ≡ length ys = omega arith in
    let more = as_number_below w ys g.1 in
    let both : x * 2 ^ (w * length ys) + number_from_digits w xs ≡ y * 2 ^ (w * length ys) + number_from_digits w ys = ap (λ (k : ℕ). x * 2 ^ (w * k) + number_from_digits w xs) (sym same_len) ∙ sym (number_from_digits-cons w x xs) ∙ e ∙ number_from_digits-cons w y ys in
    let parts = same_from_place x (number_from_digits w xs) y (number_from_digits w ys) (2 ^ (w * length ys)) (subst (λ (k : ℕ). number_from_digits w xs < 2 ^ (w * k)) same_len (as_number_below w xs f.1)) more both in
    let tail = one_number w xs ys same_len f.1 g.1 parts.1 in
    let head = parts.0 in
    cc

pub length-digits_of : (w n number : ℕ) → length (digits_of w n number) ≡ n
unfolding digits_of
length-digits_of w zero number = refl
length-digits_of w (suc n) number = length-append (digits_of w n (number / 2 ^ w)) ((number % 2 ^ w) ∷ []) ∙ (let e = length-digits_of w n (number / 2 ^ w) in omega arith)

pub below-append : (w : ℕ) (xs : List ℕ) (y : ℕ) → AllByRecursion (λ x. x < 2 ^ w) xs → y < 2 ^ w → AllByRecursion (λ x. x < 2 ^ w) (xs ++ y ∷ [])
below-append w [] y f lt = (lt, tt)
below-append w (x ∷ xs) y f lt = (f.0, below-append w xs y f.1 lt)

pub digits_below : (w n number : ℕ) → AllByRecursion (λ x. x < 2 ^ w) (digits_of w n number)
unfolding digits_of
digits_below w zero number = tt
digits_below w (suc n) number = below-append w (digits_of w n (number / 2 ^ w)) (number % 2 ^ w) (digits_below w n (number / 2 ^ w)) (mod_below number (2 ^ w) (pow_pos w))

pub number_from_digits-digits_of : (w n number : ℕ) → number < 2 ^ (w * n) → number_from_digits w (digits_of w n number) ≡ number
unfolding digits_of
number_from_digits-digits_of w zero number lt =
    let e : w * 0 ≡ 0 = omega arith in
    let none : number < 2 ^ 0 = subst (λ (k : ℕ). number < 2 ^ k) e lt in
    number_from_digits-nil w ∙ (omega arith)
number_from_digits-digits_of w (suc n) number lt =
    let e : w * suc n ≡ w * n + w = omega arith in
    let less : number / 2 ^ w < 2 ^ (w * n) = shr_below number (w * n) w (subst (λ (k : ℕ). number < 2 ^ k) e lt) in
    number_from_digits-push w (digits_of w n (number / 2 ^ w)) (number % 2 ^ w) ∙ rw (number_from_digits-digits_of w n (number / 2 ^ w) less) (shr_split number w)

pub digits_of-number_from_digits : (w : ℕ) (xs : List ℕ) → AllByRecursion (λ x. x < 2 ^ w) xs → digits_of w (length xs) (number_from_digits w xs) ≡ xs
digits_of-number_from_digits w xs fits = one_number w (digits_of w (length xs) (number_from_digits w xs)) xs (length-digits_of w (length xs) (number_from_digits w xs)) (digits_below w (length xs) (number_from_digits w xs)) fits (number_from_digits-digits_of w (length xs) (number_from_digits w xs) (as_number_below w xs fits))

-- ---- octets behind bits

pub gather_fits : (i a o : ℕ) → a < 2 ^ (64 + 8 * i) → i < 7 → o < 256 → (a * 256 + o < 2 ^ 120) × (a * 256 + o < 2 ^ (64 + 8 * (i + 1)))
gather_fits i a o below short lt =
    let le : 64 + 8 * i ≤ 112 = omega arith in
    let top = pow-le-pow_right {n = 2} (omega arith) {i = 64 + 8 * i} {j = 112} le in
    let place = mul-add-lt a 256 o (2 ^ (64 + 8 * i)) below lt in
    let e : 64 + 8 * (i + 1) ≡ 64 + 8 * i + 8 = omega arith in
    (omega arith, rw (e, pow-add 2 (64 + 8 * i) 8) (omega arith))

pub gather_more : (bits all i : ℕ) (rest : List ℕ) (o : ℕ) → o ≡ get_or rest i 0 → i < length rest → all ≡ bits * 2 ^ (8 * i) + number_from_digits 8 (take i rest) → all * 256 + o ≡ bits * 2 ^ (8 * (i + 1)) + number_from_digits 8 (take (i + 1) rest)
gather_more bits all i rest o is lt e =
    let one_more : number_from_digits 8 (take (i + 1) rest) ≡ number_from_digits 8 (take i rest) * 2 ^ 8 + o = rw (add-one, take-suc rest i 0 lt, is) (number_from_digits-push 8 (take i rest) (get_or rest i 0)) in
    let k : 8 * (i + 1) ≡ 8 * i + 8 = omega arith in
    rw (one_more, k, pow-add 2 (8 * i) 8) (omega arith)

-- ---- a number in two parts

pub high_below : (n w : ℕ) → 64 < w → n < 2 ^ w → n / 2 ^ 64 < 2 ^ (w - 64)
high_below n w lt below = let e : w ≡ w - 64 + 64 = omega arith in shr_below n (w - 64) 64 (subst (λ (k : ℕ). n < 2 ^ k) e below)

pub in_two : (x a z n w : ℕ) → 64 < w → a ≡ x * 2 ^ (w - 64) + n / 2 ^ 64 → z ≡ a * 2 ^ 64 + n % 2 ^ 64 → z ≡ x * 2 ^ w + n
in_two x a z n w lt e f =
    let k : w ≡ w - 64 + 64 = omega arith in
    let power : 2 ^ w ≡ 2 ^ (w - 64) * 2 ^ 64 = ap (λ (j : ℕ). 2 ^ j) k ∙ pow-add 2 (w - 64) 64 in
    let scaled = ap (λ (p : ℕ). x * p) power in
    omega arith

-- ---- the last octet

pub octets_below : (n : ℕ) → AllByRecursion (λ x. x < 2 ^ 8) (to_be_bytes w64 n)
octets_below n = (omega arith, (omega arith, (omega arith, (omega arith, (omega arith, (omega arith, (omega arith, (omega arith, tt))))))))

all_drop : {A : Type 0} (P : A → Type 0) (n : ℕ) (xs : List A) → AllByRecursion P xs → AllByRecursion P (drop n xs)
all_drop P zero xs h = h
all_drop P (suc n) [] h = tt
all_drop P (suc n) (x ∷ xs) h = all_drop P n xs h.1

pub last_octets : (b c n : ℕ) → c < 64 → b < 2 ^ c → n ≡ octet_count c → number_from_digits 8 (take n (to_be_bytes w64 (b * 2 ^ (64 - c)))) ≡ b * 2 ^ spare_bits c
last_octets b c n small below is =
    let word = b * 2 ^ (64 - c) in
    let whole = to_be_bytes w64 word in
    let f = spare_bits c in
    let back = 8 - n in
    let le : n ≤ 8 = omega arith in
    let sum : c + (64 - c) ≡ 64 = omega arith in
    let fits : word < 2 ^ 64 = subst (λ (k : ℕ). word < 2 ^ k) sum (shl_below b c (64 - c) below) in
    let parts = number_from_digits-append 8 (take n whole) (drop n whole) in
    let joined_up = ap (number_from_digits 8) (take-append-drop n whole) in
    let len : length (drop n whole) ≡ back = length-drop n whole in
    let two : 64 - c ≡ f + 8 * back = omega arith in
    let split : word ≡ b * 2 ^ f * 2 ^ (8 * back) = ap (λ (k : ℕ). b * 2 ^ k) two ∙ ap (λ (p : ℕ). b * p) (pow-add 2 f (8 * back)) ∙ (omega arith) in
    let low = as_number_below 8 (drop n whole) (all_drop (λ x. x < 2 ^ 8) n whole (octets_below word)) in
    let low_too : number_from_digits 8 (drop n whole) < 2 ^ (8 * back) = subst (λ (k : ℕ). number_from_digits 8 (drop n whole) < 2 ^ (8 * k)) len low in
    let parts_too : number_from_digits 8 (take n whole) * 2 ^ (8 * back) + number_from_digits 8 (drop n whole) ≡ b * 2 ^ f * 2 ^ (8 * back) + 0 =
    ap (λ (k : ℕ). number_from_digits 8 (take n whole) * 2 ^ (8 * k) + number_from_digits 8 (drop n whole)) (sym len) ∙ sym parts ∙ joined_up ∙ as_number_word word fits ∙ split ∙ (omega arith) in
    (same_from_place (number_from_digits 8 (take n whole)) (number_from_digits 8 (drop n whole)) (b * 2 ^ f) 0 (2 ^ (8 * back)) low_too (pow_pos (8 * back)) parts_too).0

pub filled : (old front : List ℕ) (b c : ℕ) → length front ≡ octet_count c → number_from_digits 8 front ≡ b * 2 ^ spare_bits c → number_from_digits 8 (old ++ front) ≡ (number_from_digits 8 old * 2 ^ c + b) * 2 ^ spare_bits c
filled old front b c len e =
    let k : 8 * length front ≡ c + spare_bits c = omega arith in
    let power : 2 ^ (8 * length front) ≡ 2 ^ c * 2 ^ spare_bits c = ap (λ (j : ℕ). 2 ^ j) k ∙ pow-add 2 c (spare_bits c) in
    let scaled = ap (λ (p : ℕ). number_from_digits 8 old * p) power in
    rw (number_from_digits-append 8 old front) (omega arith)

pub all_octets : (octets : List ℕ) → ((i : ℕ) → get_or octets i 0 < 256) → AllByRecursion (λ x. x < 2 ^ 8) octets
all_octets [] h = tt
all_octets (o ∷ octets) h = (h 0, all_octets octets (λ i. h (suc i)))

-- octets are the digits of their number
pub octets_are : (octets : List ℕ) → ((i : ℕ) → get_or octets i 0 < 256) → digits_of 8 (length octets) (number_from_digits 8 octets) ≡ octets
octets_are octets h = digits_of-number_from_digits 8 octets (all_octets octets h)

-- ---- reading a number of some width

as_number_front : (front : List ℕ) → length front ≡ 8 → ((i : ℕ) → get_or front i 0 < 256) → number_from_digits 8 front ≡ from_be_bytes w64 front
as_number_front front len h =
    let below : from_be_bytes w64 front < 2 ^ 64 = omega (arith, h 0, h 1, h 2, h 3, h 4, h 5, h 6, h 7) in
    ap (number_from_digits 8) (sym (be_bytes_8 front (from_be_bytes w64 front) len h refl)) ∙ as_number_word (from_be_bytes w64 front) below

pub word_ahead : (bits word : ℕ) (rest front after : List ℕ) → rest ≡ front ++ after → length front ≡ 8 → word ≡ from_be_bytes w64 front → ((i : ℕ) → get_or front i 0 < 256) →
    (bits * 2 ^ 64 + word) * 2 ^ (8 * length after) + number_from_digits 8 after ≡ bits * 2 ^ (8 * length rest) + number_from_digits 8 rest
word_ahead bits word rest front after e len is h =
    let number = as_number_front front len h in
    let k : 8 * length (front ++ after) ≡ 64 + 8 * length after = omega (arith, length-append front after) in
    let power : 2 ^ (8 * length (front ++ after)) ≡ 2 ^ 64 * 2 ^ (8 * length after) = ap (λ (j : ℕ). 2 ^ j) k ∙ pow-add 2 64 (8 * length after) in
    let scaled = ap (λ (p : ℕ). bits * p) power in
    let word_is : word ≡ number_from_digits 8 front = is ∙ sym number in
    let scaled_word = ap (λ (q : ℕ). q * 2 ^ (8 * length after)) word_is in
    rw (e, number_from_digits-append 8 front after) (omega arith)

pub high_at : (t w s k : ℕ) → k ≡ w + s → t < 2 ^ k → t / 2 ^ s < 2 ^ w
high_at t w s k is lt = shr_below t w s (subst (λ (j : ℕ). t < 2 ^ j) is lt)

-- the lowest bits of a number, by a mask
pub masked : (t s : ℕ) → s < 64 → (bit_and t (1 * 2 ^ s % 2 ^ 128 - 1) ≡ t % 2 ^ s) × (t % 2 ^ s < 2 ^ s)
masked t s few =
    let whole = shl_whole 1 1 s 128 (omega arith) (omega arith) in
    let one : 1 * 2 ^ s ≡ 2 ^ s = omega arith in
    (rw (whole, one) (and_mask t s), mod_below t (2 ^ s) (pow_pos s))

-- the lowest bits of a word, by a mask
pub masked_word : (t s : ℕ) → s < 64 → (bit_and t (1 * 2 ^ s % 2 ^ 64 - 1) ≡ t % 2 ^ s) × (t % 2 ^ s < 2 ^ s)
masked_word t s few =
    let whole = shl_whole 1 1 s 64 (omega arith) (omega arith) in
    let one : 1 * 2 ^ s ≡ 2 ^ s = omega arith in
    (rw (whole, one) (and_mask t s), mod_below t (2 ^ s) (pow_pos s))

pub cut_same : (t s l a : ℕ) → t / 2 ^ s * 2 ^ (s + 8 * l) + (t % 2 ^ s * 2 ^ (8 * l) + a) ≡ t * 2 ^ (8 * l) + a
cut_same t s l a =
    let split = ap (λ (n : ℕ). n * 2 ^ (8 * l)) (shr_split t s) in
    let power = ap (λ (p : ℕ). t / 2 ^ s * p) (pow-add 2 s (8 * l)) in
    omega arith

pub word_below : (bits count word : ℕ) → count < 64 → bits < 2 ^ count → word < 2 ^ 64 → (bits * 2 ^ 64 % 2 ^ 128 ≡ bits * 2 ^ 64) × (bits * 2 ^ 64 + word < 2 ^ (count + 64))
word_below bits count word small below lt = joined bits word count 64 small below (omega arith) lt

pub gathered_below : (bits count : ℕ) (rest : List ℕ) → bits < 2 ^ count → ((i : ℕ) → get_or rest i 0 < 256) → bits * 2 ^ (8 * length rest) + number_from_digits 8 rest < 2 ^ (count + 8 * length rest)
gathered_below bits count rest below h =
    let low = as_number_below 8 rest (all_octets rest h) in
    let place = mul-add-lt bits (2 ^ (8 * length rest)) (number_from_digits 8 rest) (2 ^ count) below low in
    rw (pow-add 2 count (8 * length rest)) (omega arith)

pub small_bits : (bits count : ℕ) → count < 64 → bits < 2 ^ count → bits < 2 ^ 64
small_bits bits count lt below = let p = pow_below count 64 lt in omega arith

-- a number behind fewer than 64 bits, in a word
pub sum_in_word : (b n c w : ℕ) → b < 2 ^ c → n < 2 ^ w → c + w < 64 → b * 2 ^ w % 2 ^ 64 + n < 2 ^ 64
sum_in_word b n c w below fits room =
    let whole = shl_whole b c w 64 below (omega arith) in
    let place = mul-add-lt b (2 ^ w) n (2 ^ c) below fits in
    let power = pow-add 2 c w in
    let top = pow_below (c + w) 64 room in
    rw whole (omega arith)

pub shifted_in_word : (b n c w : ℕ) → b < 2 ^ c → c + w < 64 → b * 2 ^ w % 2 ^ 64 + n ≡ b * 2 ^ w + n
shifted_in_word b n c w below room = ap (λ (x : ℕ). x + n) (shl_whole b c w 64 below (omega arith))

-- ---- packing

pub pack_more : (w i : ℕ) (numbers : List ℕ) (n x : ℕ) → n ≡ get_or numbers i 0 → i < length numbers → x ≡ number_from_digits w (take i numbers) → x * 2 ^ w + n ≡ number_from_digits w (take (i + 1) numbers)
pack_more w i numbers n x is lt e = rw (add-one, take-suc numbers i 0 lt, number_from_digits-push w (take i numbers) (get_or numbers i 0), is, e) refl

pub is_packed : (w : ℕ) (numbers before out : List ℕ) (c b : ℕ) → ((i : ℕ) → get_or out i 0 < 256) → 8 * length before + c ≡ w * length numbers → length out ≡ length before + octet_count c →
    number_from_digits 8 before * 2 ^ c + b ≡ number_from_digits w numbers → number_from_digits 8 out ≡ (number_from_digits 8 before * 2 ^ c + b) * 2 ^ spare_bits c → out ≡ packed w numbers
unfolding packed
is_packed w numbers before out c b h bits len sum last =
    let count : octet_count (w * length numbers) ≡ length out = omega arith in
    let f : 8 * length out - w * length numbers ≡ spare_bits c = omega arith in
    rw (count, f, ← sum, ← last) (sym (octets_are out h))

pub shifted : (b c : ℕ) → c < 64 → b < 2 ^ c → (b * 2 ^ (64 - c) % 2 ^ 128 ≡ b * 2 ^ (64 - c)) × (b * 2 ^ (64 - c) % 2 ^ 128 < 2 ^ 64)
shifted b c small below =
    let whole = shl_whole b c (64 - c) 128 below (omega arith) in
    let sum : c + (64 - c) ≡ 64 = omega arith in
    let fits = subst (λ (k : ℕ). b * 2 ^ (64 - c) < 2 ^ k) sum (shl_below b c (64 - c) below) in
    (whole, rw whole fits)

pub tail_same : (g b a l : ℕ) (after : List ℕ) → after ≡ [] → g ≡ b * 2 ^ (8 * l) + a → g * 2 ^ (8 * length after) + number_from_digits 8 after ≡ b * 2 ^ (8 * l) + a
tail_same g b a l after none e = rw (none, number_from_digits-nil 8, e) (omega arith)

pub below_word : (n w : ℕ) → n < 2 ^ w → w ≤ 64 → n < 2 ^ 64
below_word n w lt le = let top = pow-le-pow_right {n = 2} (omega arith) {i = w} {j = 64} le in omega arith

pub octets_of : (xs : List ℕ) → ((i d : ℕ) → i < length xs → get_or xs i d < 256) → (i : ℕ) → get_or xs i 0 < 256
octets_of xs h i = elim (cases_lt i (length xs)) [ inl lt ↦ h i 0 lt | inr le ↦ rw (get_or_past xs i 0 le) (omega arith) ]
