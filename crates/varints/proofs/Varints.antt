-- A varint is read exactly.
use Rattle.std.proofs.Common.{◌≡◌, ℕ, zero, suc, ◌+◌, ◌-◌, ◌*◌, ◌/◌, ◌%◌, ◌^◌, ◌<◌, ◌≤◌, Bool, true, false, cond, ltb, List, [], ◌∷◌, ◌++◌, length, drop, drop-cons, get_or, add-one, Option, Some, None, refl, sym, ap, subst, ◌∙◌, arith, lit≤, inl, inr}
use Rattle.std.specs.List.{position, position_or_len}
use Rattle.std.proofs.lemmas.Bool.{cases_lt, lt-ltb, le-ltb, ltb-true}
use Rattle.std.proofs.Math.Nat.{mul-le-mul_left, pow-le-pow_right}
use Rattle.std.proofs.lemmas.Nat.{mul-le, pow-add, mul-add-lt}
use Rattle.octet_fields.specs.Reading.{◌>>=◌, tested_at}
use Rattle.octet_fields.specs.Exact.{IsOctets, IsExact}
use Rattle.octet_fields.proofs.Exact.{bind_some, some_is, IsExact-tested}
use Rattle.varints.specs.Varint.{is_short, short_varint_at, varint, varint_at, varint_in}

-- a number whose digits behind the first are read from the rest
abbrev pub behind : ℕ → ℕ → Option (ℕ × List ℕ) → Option (ℕ × List ℕ)
behind value weight read = read >>= λ high. cond (ltb 0 high.0) (Some (value + weight * high.0, high.1)) None

behind_twice : (value weight octet : ℕ) → 128 ≤ octet → (read : Option (ℕ × List ℕ)) → behind value weight (read >>= λ high. cond (ltb 0 high.0) (Some (octet - 128 + 128 * high.0, high.1)) None) ≡ behind (value + (octet - 128) * weight) (weight * 128) read
behind_twice value weight octet le None = refl
behind_twice value weight octet le (Some x) =
    elim (cases_lt 0 x.0) [
      | inl lt ↦
          let inner : ltb 0 (octet - 128 + 128 * x.0) ≡ true = lt-ltb _ _ (omega arith) in
          let sum : value + weight * (octet - 128 + 128 * x.0) ≡ value + (octet - 128) * weight + weight * 128 * x.0 = omega arith in
          rw (lt-ltb 0 x.0 lt, inner, sum) refl
      | inr le ↦ rw (le-ltb 0 x.0 le) refl
    ]

-- what one more octet adds
pub behind-more : (value weight octet : ℕ) (rest : List ℕ) → 128 ≤ octet → behind value weight (varint_at (octet ∷ rest)) ≡ behind (value + (octet - 128) * weight) (weight * 128) (varint_at rest)
behind-more value weight octet rest le = rw (le-ltb octet 128 le) (behind_twice value weight octet le (varint_at rest))

enough : (f g n : ℕ) → n < f → n < g → varint_in f n ≡ varint_in g n
enough zero g n p q = absurd (omega arith)
enough (suc f) zero n p q = absurd (omega arith)
enough (suc f) (suc g) n p q =
    elim (cases_lt n 128) [
      | inl lt ↦ rw (lt-ltb n 128 lt) refl
      | inr le ↦ rw (le-ltb n 128 le) (ap (λ (more : List ℕ). (n % 128 + 128) ∷ more) (enough f g (n / 128) (omega arith) (omega arith)))
    ]

-- behind its lowest seven bits a number has a digit less
pub digit_less : (n most : ℕ) → 128 ≤ n → n < 128 ^ suc most → (less : ℕ) × (most ≡ suc less) × (n / 128 < 128 ^ suc less)
digit_less n zero le lt = absurd (omega (arith, lt))
digit_less n (suc less) le lt =
    let p = 128 ^ suc less in
    let more : suc (suc less) ≡ 1 + suc less = omega arith in
    let step : 128 ^ suc (suc less) ≡ 128 * p = ap (λ (k : ℕ). 128 ^ k) more ∙ pow-add 128 1 (suc less) in
    let below : n < 128 * p = subst (λ (x : ℕ). n < x) step lt in
    (less, refl, omega (arith, below))

pub varint-small : (n : ℕ) → n < 128 → varint n ≡ n ∷ []
unfolding varint
varint-small n lt = rw (lt-ltb n 128 lt) refl

pub varint-large : (n : ℕ) → 128 ≤ n → varint n ≡ (n % 128 + 128) ∷ varint (n / 128)
unfolding varint
varint-large n le = rw (le-ltb n 128 le) (ap (λ (more : List ℕ). (n % 128 + 128) ∷ more) (enough n (suc (n / 128)) (n / 128) (omega arith) (omega arith)))

again_in : (f n : ℕ) (rest : List ℕ) → n < f → varint_at (varint_in f n ++ rest) ≡ Some (n, rest)
again_in zero n rest p = absurd (omega arith)
again_in (suc f) n rest p =
    elim (cases_lt n 128) [
      | inl lt ↦ rw (lt-ltb n 128 lt, lt-ltb n 128 lt) refl
      | inr le ↦
          let test : ltb (n % 128 + 128) 128 ≡ false = le-ltb _ _ (omega arith) in
          let more : ltb 0 (n / 128) ≡ true = lt-ltb _ _ (omega arith) in
          let back : n % 128 + 128 - 128 + 128 * (n / 128) ≡ n = omega arith in
          rw (le-ltb n 128 le, test, again_in f (n / 128) rest (omega arith), more, back) refl
    ]

if_some : {A : Type 0} (b : Bool) (x y : A) → ◌≡◌ {A = Option A} (cond b (Some x) None) (Some y) → (b ≡ true) × (x ≡ y)
if_some true x y e = (refl, some_is x y e)
if_some false x y e = absurd cc

takes : (octets : List ℕ) (x : ℕ × List ℕ) → IsOctets octets → varint_at octets ≡ Some x → (octets ≡ varint x.0 ++ x.1) × Unit {0}
takes [] x are e = absurd cc
takes (octet ∷ rest) x are e =
    elim (cases_lt octet 128) [
      | inl lt ↦
          let small = rw (lt-ltb octet 128 lt) at e in
          subst (λ (y : ℕ × List ℕ). (octet ∷ rest ≡ varint y.0 ++ y.1) × Unit {0}) (some_is (octet, rest) x small) (rw (varint-small octet lt) refl, tt)
      | inr le ↦
          let large = rw (le-ltb octet 128 le) at e in
          let p = bind_some (varint_at rest) (λ high. cond (ltb 0 high.0) (Some (octet - 128 + 128 * high.0, high.1)) None) x large in
          let t = takes rest p.0 (λ i. are (suc i)) p.1 in
          let g = if_some (ltb 0 p.0.0) (octet - 128 + 128 * p.0.0, p.0.1) x p.2 in
          let positive : 0 < p.0.0 = ltb-true _ _ g.0 in
          let below : octet < 256 = are 0 in
          let n = octet - 128 + 128 * p.0.0 in
          let first : n % 128 + 128 ≡ octet = omega arith in
          let others : n / 128 ≡ p.0.0 = omega arith in
          let spelled : varint n ≡ octet ∷ varint p.0.0 = varint-large n (omega arith) ∙ rw (first, others) refl in
          subst (λ (y : ℕ × List ℕ). (octet ∷ rest ≡ varint y.0 ++ y.1) × Unit {0}) g.1 (rw (spelled, ← t.0) refl, tt)
    ]

pub varint_exact : IsExact (λ _. Unit {0}) varint varint_at
unfolding varint
varint_exact = record { takes = takes; again = λ n rest may fits. again_in (suc n) n rest (omega arith) }

pub short_varint_exact : IsExact (λ n. Unit {0} × (is_short n ≡ true)) varint short_varint_at
unfolding short_varint_at
short_varint_exact = IsExact-tested varint_exact is_short

-- ---- what the loop that reads has

pub short_of : (octets : List ℕ) (n : ℕ) (after : List ℕ) → varint_at octets ≡ Some (n, after) → n < 2 ^ 98 → short_varint_at octets ≡ Some (n, after)
unfolding short_varint_at is_short
short_of octets n after e lt = rw (e, lt-ltb n (2 ^ 98) lt) refl

pub none_of : (octets : List ℕ) → varint_at octets ≡ None → short_varint_at octets ≡ None
unfolding short_varint_at
none_of octets e = rw e refl

long_behind : (value weight : ℕ) → 2 ^ 98 ≤ weight → (read : Option (ℕ × List ℕ)) → tested_at is_short (λ _. behind value weight read) [] ≡ None
unfolding is_short
long_behind value weight le None = refl
long_behind value weight le (Some x) =
    elim (cases_lt 0 x.0) [
      | inl lt ↦
          let large : 2 ^ 98 ≤ value + weight * x.0 = omega (arith, mul-le-mul_left weight lt) in
          rw (lt-ltb 0 x.0 lt, le-ltb (value + weight * x.0) (2 ^ 98) large) refl
      | inr le ↦ rw (le-ltb 0 x.0 le) refl
    ]

pub long_of : (octets : List ℕ) (value weight : ℕ) (read : Option (ℕ × List ℕ)) → varint_at octets ≡ behind value weight read → 2 ^ 98 ≤ weight → short_varint_at octets ≡ None
unfolding short_varint_at
long_of octets value weight read e le = rw e (long_behind value weight le read)

pub weight_le : (i weight : ℕ) → weight ≡ 128 ^ i → i < 14 → weight ≤ 2 ^ 91
weight_le i weight e lt = let le : i ≤ 13 = omega arith in rw e (pow-le-pow_right {n = 128} (omega arith) {i = i} {j = 13} le)

pub digit_fits : (octet weight : ℕ) → octet < 128 → weight ≤ 2 ^ 91 → octet * weight ≤ 127 * 2 ^ 91
digit_fits octet weight lt le = mul-le octet weight 127 (2 ^ 91) (omega arith) le

pub behind_last : (value weight octet : ℕ) (after : List ℕ) → 0 < octet → octet < 128 → behind value weight (varint_at (octet ∷ after)) ≡ Some (value + octet * weight, after)
behind_last value weight octet after pos lt = rw (lt-ltb octet 128 lt, lt-ltb 0 octet pos) (ap (λ (n : ℕ). Some (n, after)) (omega arith))

pub first_small : (octet : ℕ) (after : List ℕ) → octet < 128 → varint_at (octet ∷ after) ≡ Some (octet, after)
first_small octet after lt = rw (lt-ltb octet 128 lt) refl

-- the octets behind so many
pub octet_next : (octets : List ℕ) (i : ℕ) → i < length octets → drop i octets ≡ get_or octets i 0 ∷ drop (i + 1) octets
octet_next octets i lt = drop-cons octets i 0 lt ∙ ap (λ (k : ℕ). get_or octets i 0 ∷ drop k octets) (sym (add-one i))

pub weight_end : (i weight : ℕ) → weight ≡ 128 ^ i → i ≡ 14 → 2 ^ 98 ≤ weight
weight_end i weight e is = rw (e, is) (lit≤ tt)

pub weight_more : (i weight : ℕ) → weight ≡ 128 ^ i → weight * 128 ≡ 128 ^ (i + 1)
weight_more i weight e = rw e (sym (pow-add 128 i 1))

pub low_more : (value digit weight : ℕ) → value < weight → digit < 128 → value + digit * weight < weight * 128
low_more value digit weight low lt = let place = mul-add-lt digit weight value 128 lt low in omega arith

test_some : (b : Bool) (x y : ℕ × List ℕ) → ◌≡◌ {A = Option (ℕ × List ℕ)} (cond b (Some x) None) (Some y) → (b ≡ true) × (x ≡ y)
test_some true x y e = (refl, some_is x y e)
test_some false x y e = absurd cc

pub short_below : (octets : List ℕ) (n : ℕ) (rest : List ℕ) → short_varint_at octets ≡ Some (n, rest) → n < 2 ^ 98
unfolding short_varint_at is_short
short_below octets n rest e =
    let p = bind_some (varint_at octets) (λ a. cond (ltb a.0 (2 ^ 98)) (Some a) None) (n, rest) e in
    let t = test_some (ltb p.0.0 (2 ^ 98)) p.0 (n, rest) p.2 in
    let same : p.0.0 ≡ n = ap (λ (x : ℕ × List ℕ). x.0) t.1 in
    let lt = ltb-true _ _ t.0 in
    omega arith

-- ---- where a varint ends

-- it ends with its first octet below 128
ends_at : (octets : List ℕ) (n : ℕ) (after : List ℕ) → varint_at octets ≡ Some (n, after) →
    (position_or_len (λ octet. ltb octet 128) octets < length octets) × (drop (position_or_len (λ octet. ltb octet 128) octets + 1) octets ≡ after)
ends_at [] n after e = absurd cc
ends_at (octet ∷ rest) n after e = elim (cases_lt octet 128) [
  | inl lt ↦
      let test = lt-ltb octet 128 lt in
      let made : ℕ × List ℕ = (octet, rest) in
      let found : ◌≡◌ {A = Option (ℕ × List ℕ)} (Some (octet, rest)) (Some (n, after)) = rw test at e in
      let first : position_or_len (λ octet. ltb octet 128) (octet ∷ rest) ≡ 0 = rw test refl in
      (omega (arith, first), ap (λ (k : ℕ). drop (k + 1) (octet ∷ rest)) first ∙ ap (λ (y : ℕ × List ℕ). y.1) (some_is made (n, after) found))
  | inr le ↦
      let test = le-ltb octet 128 le in
      let found : (varint_at rest >>= λ high. cond (ltb 0 high.0) (Some (octet - 128 + 128 * high.0, high.1)) None) ≡ Some (n, after) = rw test at e in
      let p = bind_some (varint_at rest) (λ high. cond (ltb 0 high.0) (Some (octet - 128 + 128 * high.0, high.1)) None) (n, after) found in
      let g = if_some (ltb 0 p.0.0) (octet - 128 + 128 * p.0.0, p.0.1) (n, after) p.2 in
      let more = ends_at rest p.0.0 p.0.1 p.1 in
      let first : position_or_len (λ octet. ltb octet 128) (octet ∷ rest) ≡ suc (position_or_len (λ octet. ltb octet 128) rest) = rw test (omega arith) in (
        omega (arith, more.0, first),
        ap (λ (k : ℕ). drop (k + 1) (octet ∷ rest)) first ∙ ap (λ (k : ℕ). drop k (octet ∷ rest)) (add-one (suc (position_or_len (λ octet. ltb octet 128) rest)))
            ∙ ap (λ (k : ℕ). drop k rest) (sym (add-one (position_or_len (λ octet. ltb octet 128) rest))) ∙ more.1 ∙ ap (λ (y : ℕ × List ℕ). y.1) g.1,
      )
]

pub varint_ends : (octets : List ℕ) (n : ℕ) (after : List ℕ) → short_varint_at octets ≡ Some (n, after) →
    (last : ℕ) × (last < length octets) × (position (λ octet. ltb octet 128) octets ≡ Some last) × (drop (last + 1) octets ≡ after)
unfolding short_varint_at
varint_ends octets n after e =
    let p = bind_some (varint_at octets) (λ a. cond (is_short a.0) (Some a) None) (n, after) e in
    let g = test_some (is_short p.0.0) p.0 (n, after) p.2 in
    let more = ends_at octets p.0.0 p.0.1 p.1 in
    let last = position_or_len (λ octet. ltb octet 128) octets in
    (last, more.0, rw (lt-ltb last (length octets) more.0) refl, more.1 ∙ ap (λ (y : ℕ × List ℕ). y.1) g.1)
