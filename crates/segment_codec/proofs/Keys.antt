-- A key column is read exactly.
use Rattle.std.proofs.Common.{◌≡◌, ℕ, zero, suc, ℤ, pos, ◌+◌, ◌*◌, ◌/◌, ◌%◌, ◌^◌, ◌<◌, Bool, true, false, cond, eqb, ltb, ◌&&◌, inl, inr, List, [], ◌∷◌, ◌++◌, length, Some, refl, sym, ap, subst, ◌∙◌, append_assoc, arith}
use Rattle.std.specs.Prelude.{◌+ℤ◌, ◌-ℤ◌, ◌*ℤ◌, ◌<ℤ◌, ◌≤ℤ◌, int_lt}
use Rattle.std.specs.Int.{w64}
use Rattle.std.specs.Int.RustNames.{FitsSigned, unsigned_abs}
use Rattle.std.specs.List.{AllByRecursion}
use Rattle.std.specs.List.Sorted.{IsStrictlySortedBy}
use Rattle.std.specs.Ordering.{nat_cmp}
use Rattle.std.specs.declared.cmp.Ordering.TheVariants.{Equal, Greater, Less}
use Rattle.std.proofs.lemmas.Bool.{cases_lt, le-ltb, ltb-true, lt-ltb}
use Rattle.std.proofs.lemmas.Int.{by_lt_z, ints}
use Rattle.octet_fields.specs.Reading.{◌>>=◌}
use Rattle.octet_fields.specs.Exact.{IsOctets, IsExact}
use Rattle.octet_fields.proofs.Exact.{bind_some, some_is, rest_octets, IsExact-tested}
use Rattle.segment_codec.specs.KeyColumn.{IsKey, is_gap, key_after, key_after_at, key_gap, key_gaps, key_number, keys_after_at}
use Rattle.varints.specs.Varint.{is_short, varint}
use Rattle.segment_codec.proofs.Leaves.{mapped_as}
use Rattle.arch_types.specs.Order.{key_cmp}
use Rattle.arch_types.specs.declared.key.Key.{Key}
use Rattle.varints.proofs.Varints.{short_varint_exact}

-- a key behind another
pub record IsKeyAfter (last next : Key) : Type 0 where
  pub key : IsKey next
  pub rises : key_number last <ℤ key_number next

-- keys that rise from one on
abbrev pub AreKeysAfter : Key → List Key → Type 0
AreKeysAfter last [] = Unit {0}
AreKeysAfter last (key ∷ keys) = IsKeyAfter last key × AreKeysAfter key keys

-- keys that rise by their numbers, each against the one before
abbrev pub KeysRise : List Key → Type 0
KeysRise [] = Unit {0}
KeysRise (key ∷ keys) = IsKey key × AreKeysAfter key keys

and_true : (a b : Bool) → (a && b) ≡ true → (a ≡ true) × (b ≡ true)
and_true true b e = (refl, e)
and_true false b e = absurd cc

-- on plain numbers
number_after : (t : ℤ) (s g : ℕ) → ((t +ℤ pos ((s + g) / 2 ^ 32)) *ℤ pos (2 ^ 32)) +ℤ pos ((s + g) % 2 ^ 32) ≡ ((t *ℤ pos (2 ^ 32)) +ℤ pos s) +ℤ pos g
number_after t s g = omega (arith, ints)

gap_after : (n : ℤ) (g : ℕ) → unsigned_abs ((n +ℤ pos g) -ℤ n) ≡ g
gap_after n g = omega (arith, ints)

above : (n : ℤ) (g : ℕ) → 0 < g → n <ℤ (n +ℤ pos g)
above n g h = grind (arith, ints)

fits_low : (t : ℤ) (n : ℕ) → FitsSigned w64 t → (t +ℤ pos n) <ℤ pos (2 ^ 63) → FitsSigned w64 (t +ℤ pos n)
fits_low t n h lt = let low = h.sfits in let high = lt.lt in record { sfits = grind (arith, ints) }

int_lt_true : (a b : ℤ) → int_lt a b ≡ true → a <ℤ b
int_lt_true a b e = grind (arith, ints)

true_int_lt : (a b : ℤ) → a <ℤ b → int_lt a b ≡ true
true_int_lt a b h = grind (arith, ints)

-- the difference of two keys by the difference of their times
sum_is : (t u : ℤ) (s r : ℕ) → s < 2 ^ 32 → r < 2 ^ 32 → ((t *ℤ pos (2 ^ 32)) +ℤ pos s) <ℤ ((u *ℤ pos (2 ^ 32)) +ℤ pos r) →
    s + unsigned_abs (((u *ℤ pos (2 ^ 32)) +ℤ pos r) -ℤ ((t *ℤ pos (2 ^ 32)) +ℤ pos s)) ≡ unsigned_abs (u -ℤ t) * 2 ^ 32 + r
sum_is t u s r hs hr lt = omega (arith, ints)

time_is : (t u : ℤ) (s r : ℕ) → s < 2 ^ 32 → r < 2 ^ 32 → ((t *ℤ pos (2 ^ 32)) +ℤ pos s) <ℤ ((u *ℤ pos (2 ^ 32)) +ℤ pos r) → t +ℤ pos (unsigned_abs (u -ℤ t)) ≡ u
time_is t u s r hs hr lt = omega (arith, ints)

positive_gap : (n m : ℤ) → n <ℤ m → 0 < unsigned_abs (m -ℤ n)
positive_gap n m lt = omega (arith, ints)

below_time : (u : ℤ) → FitsSigned w64 u → u <ℤ pos (2 ^ 63)
below_time u h = let low = h.sfits in grind (arith, ints)

short_time : (t u : ℤ) → FitsSigned w64 t → FitsSigned w64 u → unsigned_abs (u -ℤ t) < 2 ^ 64
short_time t u h k = let low = h.sfits in let high = k.sfits in omega (arith, ints)

same_key : (k : Key) (t : ℤ) (s : ℕ) → t ≡ k.time → s ≡ k.seq → ◌≡◌ {A = Key} (record { time = t; seq = s }) k
same_key k t s e f = rw (e, f) refl

there : (last : Key) → IsKey last → (g : ℕ) → (Unit {0} × (is_short g ≡ true)) × (is_gap last g ≡ true) → IsKeyAfter last (key_after last g) × (varint g ≡ varint (key_gap last (key_after last g)))
unfolding is_gap key_gap
there last h g right =
    let a = and_true (ltb 0 g) (int_lt (last.time +ℤ pos ((last.seq + g) / 2 ^ 32)) (pos (2 ^ 63))) right.1 in
    let positive : 0 < g = ltb-true _ _ a.0 in
    let number = number_after last.time last.seq g in (
      record { key = record { time = fits_low last.time ((last.seq + g) / 2 ^ 32) h.time (int_lt_true _ _ a.1); seq = omega arith }; rises = rw number (above (key_number last) g positive) },
      ap varint (sym (ap (λ (n : ℤ). unsigned_abs (n -ℤ key_number last)) number ∙ gap_after (key_number last) g)),
    )

here : (last : Key) → IsKey last → (k : Key) → IsKeyAfter last k → ((Unit {0} × (is_short (key_gap last k) ≡ true)) × (is_gap last (key_gap last k) ≡ true)) × (key_after last (key_gap last k) ≡ k) × (varint (key_gap last k) ≡ varint (key_gap last k))
unfolding is_gap key_gap is_short
here last h k next =
    let sum = sum_is last.time k.time last.seq k.seq h.seq next.key.seq next.rises in
    let time = time_is last.time k.time last.seq k.seq h.seq next.key.seq next.rises in
    let g = unsigned_abs (key_number k -ℤ key_number last) in
    let d = unsigned_abs (k.time -ℤ last.time) in
    let seq = next.key.seq in
    let positive : 0 < g = positive_gap (key_number last) (key_number k) next.rises in
    let wide : d < 2 ^ 64 = short_time last.time k.time h.time next.key.time in
    let low : (last.seq + g) / 2 ^ 32 ≡ d = omega arith in
    let rest : (last.seq + g) % 2 ^ 32 ≡ k.seq = omega arith in
    let time_too : last.time +ℤ pos ((last.seq + g) / 2 ^ 32) ≡ k.time = ap (λ (n : ℕ). last.time +ℤ pos n) low ∙ time in
    let small : ltb g (2 ^ 98) ≡ true = lt-ltb _ _ (omega arith) in
    let above_zero : ltb 0 g ≡ true = lt-ltb _ _ positive in
    let fits : int_lt (last.time +ℤ pos ((last.seq + g) / 2 ^ 32)) (pos (2 ^ 63)) ≡ true = rw time_too (true_int_lt k.time (pos (2 ^ 63)) (below_time k.time next.key.time)) in
    (((tt, small), ap (λ (b : Bool). b && int_lt (last.time +ℤ pos ((last.seq + g) / 2 ^ 32)) (pos (2 ^ 63))) above_zero ∙ fits), same_key k _ _ time_too rest, refl)

key_after_exact : (last : Key) → IsKey last → IsExact (IsKeyAfter last) (λ (k : Key). varint (key_gap last k)) (key_after_at last)
unfolding key_after_at
key_after_exact last h = mapped_as (IsKeyAfter last) (λ (k : Key). varint (key_gap last k)) (key_after last) (key_gap last) (IsExact-tested short_varint_exact (is_gap last)) (there last h) (here last h)

keys_after_take : (n : ℕ) (last : Key) (octets : List ℕ) (x : List Key × List ℕ) → IsKey last → IsOctets octets → keys_after_at n last octets ≡ Some x → (octets ≡ key_gaps last x.0 ++ x.1) × ((length x.0 ≡ n) × AreKeysAfter last x.0)
keys_after_take zero last octets x is are e =
    let made : List Key × List ℕ = ([], octets) in
    subst (λ (y : List Key × List ℕ). (octets ≡ key_gaps last y.0 ++ y.1) × ((length y.0 ≡ 0) × AreKeysAfter last y.0)) (some_is made x e) (refl, (refl, tt))
keys_after_take (suc n) last octets x is are e =
    let p = bind_some (key_after_at last octets) (λ k. keys_after_at n k.0 k.1 >>= λ more. Some (k.0 ∷ more.0, more.1)) x e in
    let t = (key_after_exact last is).takes octets p.0 are p.1 in
    let q = bind_some (keys_after_at n p.0.0 p.0.1) (λ more. Some (p.0.0 ∷ more.0, more.1)) x p.2 in
    let u = keys_after_take n p.0.0 p.0.1 q.0 t.1.key (rest_octets (varint (key_gap last p.0.0)) p.0.1 (subst IsOctets t.0 are)) q.1 in
    let made : List Key × List ℕ = (p.0.0 ∷ q.0.0, q.0.1) in
    let whole : octets ≡ key_gaps last (p.0.0 ∷ q.0.0) ++ q.0.1 = t.0 ∙ ap (λ (w : List ℕ). varint (key_gap last p.0.0) ++ w) u.0 ∙ sym (append_assoc (varint (key_gap last p.0.0)) (key_gaps p.0.0 q.0.0) q.0.1) in
    subst (λ (y : List Key × List ℕ). (octets ≡ key_gaps last y.0 ++ y.1) × ((length y.0 ≡ suc n) × AreKeysAfter last y.0)) (some_is made x q.2) (whole, (ap suc u.1.0, (t.1, u.1.1)))

keys_after_again : (last : Key) (ks : List Key) (rest : List ℕ) → IsKey last → AreKeysAfter last ks → keys_after_at (length ks) last (key_gaps last ks ++ rest) ≡ Some (ks, rest)
keys_after_again last [] rest is fits = refl
keys_after_again last (k ∷ ks) rest is fits =
    let regrouped : key_gaps last (k ∷ ks) ++ rest ≡ varint (key_gap last k) ++ (key_gaps k ks ++ rest) = append_assoc (varint (key_gap last k)) (key_gaps k ks) rest in
    ap (keys_after_at (suc (length ks)) last) regrouped ∙ rw ((key_after_exact last is).again k (key_gaps k ks ++ rest) tt fits.0, keys_after_again k ks rest fits.0.key fits.1) refl

pub keys_after_exact : (n : ℕ) (last : Key) → IsKey last → IsExact (λ (ks : List Key). (length ks ≡ n) × AreKeysAfter last ks) (key_gaps last) (keys_after_at n last)
keys_after_exact n last is = record {
  takes = λ octets x are e. keys_after_take n last octets x is are e;
  again = λ ks rest may fit. subst (λ (k : ℕ). keys_after_at k last (key_gaps last ks ++ rest) ≡ Some (ks, rest)) fit.0 (keys_after_again last ks rest is fit.1);
}

-- ---- the order of keys is that of their numbers

not_int_lt : (a b : ℤ) → b ≤ℤ a → int_lt a b ≡ false
not_int_lt a b h = grind (arith, ints)

by_time : (t u : ℤ) (s r : ℕ) → s < 2 ^ 32 → t <ℤ u → ((t *ℤ pos (2 ^ 32)) +ℤ pos s) <ℤ ((u *ℤ pos (2 ^ 32)) +ℤ pos r)
by_time t u s r hs lt = omega (arith, ints)

by_seq : (t u : ℤ) (s r : ℕ) → t ≡ u → s < r → ((t *ℤ pos (2 ^ 32)) +ℤ pos s) <ℤ ((u *ℤ pos (2 ^ 32)) +ℤ pos r)
by_seq t u s r e lt = omega (arith, ints)

same_time : (t u : ℤ) (s r : ℕ) → r < 2 ^ 32 → u ≤ℤ t → ((t *ℤ pos (2 ^ 32)) +ℤ pos s) <ℤ ((u *ℤ pos (2 ^ 32)) +ℤ pos r) → t ≡ u
same_time t u s r hr le lt = omega (arith, ints)

later_seq : (t u : ℤ) (s r : ℕ) → t ≡ u → ((t *ℤ pos (2 ^ 32)) +ℤ pos s) <ℤ ((u *ℤ pos (2 ^ 32)) +ℤ pos r) → s < r
later_seq t u s r e lt = omega (arith, ints)

both_ways : (t u : ℤ) → u ≤ℤ t → t ≤ℤ u → t ≡ u
both_ways t u le ge = omega (arith, ints)

not_less : (b : Bool) → cond b Equal Greater ≡ Less → ⊥
not_less true e = absurd cc
not_less false e = absurd cc

number_less : (a b : Key) → IsKey b → key_number a <ℤ key_number b → key_cmp a b ≡ Less
number_less a b hb rises =
    by_lt_z a.time b.time
    (λ lt. let earlier : int_lt a.time b.time ≡ true = true_int_lt a.time b.time lt in rw earlier refl)
    (λ le.
    let same = same_time a.time b.time a.seq b.seq hb.seq le rises in
    let seq = later_seq a.time b.time a.seq b.seq same rises in
    let here : int_lt a.time b.time ≡ false = not_int_lt a.time b.time le in
    let there : int_lt b.time a.time ≡ false = not_int_lt b.time a.time (let e = same in omega (arith, ints)) in
    rw (here, there, lt-ltb a.seq b.seq seq) refl)

less_number : (a b : Key) → IsKey a → key_cmp a b ≡ Less → key_number a <ℤ key_number b
less_number a b ha less =
    by_lt_z a.time b.time
    (λ lt. by_time a.time b.time a.seq b.seq ha.seq lt)
    (λ le.
    let here : int_lt a.time b.time ≡ false = not_int_lt a.time b.time le in
    by_lt_z b.time a.time
    (λ lt. absurd (let there : int_lt b.time a.time ≡ true = true_int_lt b.time a.time lt in let bad = rw (here, there) at less in cc))
    (λ ge.
    let there : int_lt b.time a.time ≡ false = not_int_lt b.time a.time ge in
    let seq : nat_cmp a.seq b.seq ≡ Less = rw (here, there) at less in
    elim (cases_lt a.seq b.seq) [
      | inl lt ↦ by_seq a.time b.time a.seq b.seq (both_ways a.time b.time le ge) lt
      | inr more ↦ absurd (not_less (eqb a.seq b.seq) (rw (le-ltb a.seq b.seq more) at seq))
    ]))

through : (a b c : ℤ) → a <ℤ b → b <ℤ c → a <ℤ c
through a b c h k = omega (arith, ints)

less_through : (last k : Key) (ks : List Key) → IsKey k → key_number last <ℤ key_number k → AllByRecursion IsKey ks → AllByRecursion (λ x. key_cmp k x ≡ Less) ks → AllByRecursion (λ x. key_cmp last x ≡ Less) ks
less_through last k [] h rises are less = tt
less_through last k (x ∷ ks) h rises are less = (number_less last x are.0 (through (key_number last) (key_number k) (key_number x) rises (less_number k x h less.0)), less_through last k ks h rises are.1 less.1)

after_rise : (last : Key) (ks : List Key) → AreKeysAfter last ks → AllByRecursion IsKey ks × (AllByRecursion (λ x. key_cmp last x ≡ Less) ks × IsStrictlySortedBy key_cmp ks)
unfolding IsStrictlySortedBy
after_rise last [] after = (tt, (tt, tt))
after_rise last (k ∷ ks) after =
    let key = after.0.key in
    let more = after_rise k ks after.1 in
    ((key, more.0), ((number_less last k key after.0.rises, less_through last k ks key after.0.rises more.0 more.1.0), (more.1.0, more.1.1)))

rise_after : (last : Key) (ks : List Key) → IsKey last → AllByRecursion IsKey ks → AllByRecursion (λ x. key_cmp last x ≡ Less) ks → IsStrictlySortedBy key_cmp ks → AreKeysAfter last ks
unfolding IsStrictlySortedBy
rise_after last [] h are less rising = tt
rise_after last (k ∷ ks) h are less rising = (record { key = are.0; rises = less_number last k h less.0 }, rise_after k ks are.0 are.1 rising.0 rising.1)

pub rise_in_order : (ks : List Key) → KeysRise ks → AllByRecursion IsKey ks × IsStrictlySortedBy key_cmp ks
unfolding IsStrictlySortedBy
rise_in_order [] rise = (tt, tt)
rise_in_order (k ∷ ks) rise = let more = after_rise k ks rise.1 in ((rise.0, more.0), (more.1.0, more.1.1))

pub in_order_rise : (ks : List Key) → AllByRecursion IsKey ks → IsStrictlySortedBy key_cmp ks → KeysRise ks
unfolding IsStrictlySortedBy
in_order_rise [] are rising = tt
in_order_rise (k ∷ ks) are rising = (are.0, rise_after k ks are.0 are.1 rising.0 rising.1)
