-- Keys before a time, whose gaps are summed.
use Rattle.std.proofs.Common.{◌≡◌, ◌∙◌, to_z, of_z, ℕ, ℤ, pos, ◌+◌, ◌-◌, ◌/◌, ◌%◌, ◌^◌, ◌<◌, ◌≤◌, Bool, true, false, cond, not, ◌&&◌, List, [], ◌∷◌, ◌++◌, length, Option, Some, None, refl, sym, ap, subst, append-nil, append_assoc, length-append, arith}
use Rattle.std.specs.Prelude.{◌+ℤ◌, ◌*ℤ◌, ◌<ℤ◌, filter, int_lt}
use Rattle.std.specs.Int.{w64}
use Rattle.std.specs.Int.RustNames.{FitsSigned}
use Rattle.std.specs.List.{AllByRecursion}
use Rattle.std.proofs.lemmas.Bool.{lt-ltb}
use Rattle.std.proofs.lemmas.Int.{ints}
use Rattle.std.proofs.lemmas.List.Elements.{filter-append}
use Rattle.octet_fields.proofs.Times.{with_front}
use Rattle.arch_types.specs.declared.key.Key.{Key}
use Rattle.segment_codec.specs.KeyColumn.{is_gap, key_after, key_after_at, keys_after_at}
use Rattle.segment_codec.specs.RangeColumn.{ArePassed, IsGapTo, IsSpanOf, is_key_in_range}
use Rattle.segment_codec.specs.declared.range_column.KeysInRange.{KeysInRange}
use Rattle.segment_codec.proofs.Looping.{keys_more}
use Rattle.varints.specs.Varint.{short_varint_at}

-- ---- one key more

same_parts : (t u : ℤ) (s r : ℕ) → t ≡ u → s ≡ r → ◌≡◌ {A = Key} (record { time = t; seq = s }) (record { time = u; seq = r })
same_parts t u s r e f = rw (e, f) refl

no_gap_time : (t : ℤ) (s : ℕ) → s < 2 ^ 32 → t +ℤ pos ((s + 0) / 2 ^ 32) ≡ t
no_gap_time t s h = omega (arith, ints)

no_gap_seq : (s : ℕ) → s < 2 ^ 32 → (s + 0) % 2 ^ 32 ≡ s
no_gap_seq s h = omega arith

-- no gap behind a key stands that key
pub no_gap_behind : (k : Key) → k.seq < 2 ^ 32 → key_after k 0 ≡ k
no_gap_behind k h = same_parts _ k.time _ k.seq (no_gap_time k.time k.seq h) (no_gap_seq k.seq h)

sum_time : (t : ℤ) (s g h : ℕ) → (t +ℤ pos ((s + g) / 2 ^ 32)) +ℤ pos (((s + g) % 2 ^ 32 + h) / 2 ^ 32) ≡ t +ℤ pos ((s + (g + h)) / 2 ^ 32)
sum_time t s g h = omega (arith, ints)

sum_seq : (s g h : ℕ) → ((s + g) % 2 ^ 32 + h) % 2 ^ 32 ≡ (s + (g + h)) % 2 ^ 32
sum_seq s g h = omega arith

-- two gaps are one
pub gaps_sum : (k : Key) (g h : ℕ) → key_after (key_after k g) h ≡ key_after k (g + h)
gaps_sum k g h = same_parts _ _ _ _ (sum_time k.time k.seq g h) (sum_seq k.seq g h)

before_on_numbers : (t from : ℤ) (s far g : ℕ) → ((t *ℤ pos (2 ^ 32)) +ℤ pos s) +ℤ pos far ≡ from *ℤ pos (2 ^ 32) → g < far → (t +ℤ pos ((s + g) / 2 ^ 32)) <ℤ from
before_on_numbers t from s far g e lt = grind (arith, ints)

-- a key less far behind than a time begins is before it
pub before_time : (from : ℤ) (k : Key) (far g : ℕ) → IsGapTo from k far → g < far → (key_after k g).time <ℤ from
before_time from k far g e lt = before_on_numbers k.time from k.seq far g e lt

below_most : (t from : ℤ) → FitsSigned w64 from → t <ℤ from → int_lt t (pos (2 ^ 63)) ≡ true
below_most t from fits lt = let low = fits.sfits in let high = lt.lt in grind (arith, ints)

-- the key behind a gap is read
key_read : (last : Key) (g : ℕ) (octets after : List ℕ) → short_varint_at octets ≡ Some (g, after) → is_gap last g ≡ true → key_after_at last octets ≡ Some (key_after last g, after)
unfolding key_after_at
key_read last g octets after e ok = rw (e, ok) refl

is_gap_before : (from : ℤ) (last : Key) (g : ℕ) → FitsSigned w64 from → 0 < g → (key_after last g).time <ℤ from → is_gap last g ≡ true
unfolding is_gap
is_gap_before from last g fits some lt = rw (lt-ltb 0 g some) (below_most _ from fits lt)

made_time : (t from : ℤ) (s far left : ℕ) → FitsSigned w64 t → FitsSigned w64 from → ((t *ℤ pos (2 ^ 32)) +ℤ pos s) +ℤ pos far ≡ from *ℤ pos (2 ^ 32) → s + far < 2 ^ 64 →
    to_z w64 (of_z w64 (to_z w64 (of_z w64 t) +ℤ to_z w64 ((s + (far - left)) / 2 ^ 32))) ≡ t +ℤ pos ((s + (far - left)) / 2 ^ 32)
made_time t from s far left fits most e near = omega (arith, ints)

-- the key so far behind another, as it's made of 64 bits
pub made_key : (from : ℤ) (k : Key) (far left seq : ℕ) → FitsSigned w64 k.time → FitsSigned w64 from → IsGapTo from k far → k.seq + far < 2 ^ 64 → seq ≡ k.seq →
    ◌≡◌ {A = Key} (record { time = to_z w64 (of_z w64 (to_z w64 (of_z w64 k.time) +ℤ to_z w64 ((seq + (far - left)) / 2 ^ 32))); seq = (seq + (far - left)) % 2 ^ 32 }) (key_after k (far - left))
made_key from k far left seq fits most e near same =
    same_parts _ _ _ _
    (ap (λ (s : ℕ). to_z w64 (of_z w64 (to_z w64 (of_z w64 k.time) +ℤ to_z w64 ((s + (far - left)) / 2 ^ 32)))) same ∙ made_time k.time from k.seq far left fits most e near)
    (ap (λ (s : ℕ). (s + (far - left)) % 2 ^ 32) same)

-- ---- so many

all_append : (P : Key → Type 0) (keys : List Key) (key : Key) → AllByRecursion P keys → P key → AllByRecursion P (keys ++ key ∷ [])
all_append P [] key all here = (here, tt)
all_append P (k ∷ keys) key all here = (all.0, all_append P keys key all.1 here)

with_none : (read : Option (List Key × List ℕ)) → read ≡ with_front [] read
with_none None = refl
with_none (Some x) = refl

-- none is passed yet
pub none_passed : (from : ℤ) (n : ℕ) (k : Key) (octets : List ℕ) → ArePassed from 0 (keys_after_at n k octets) (keys_after_at (n - 0) k octets)
none_passed from n k octets =
    let all : n ≡ n - 0 = omega arith in
    ([], refl, tt, with_none (keys_after_at n k octets) ∙ ap (λ (m : ℕ). with_front [] (keys_after_at m k octets)) all)

-- all is left to pass
pub none_summed : (from : ℤ) (n : ℕ) (k : Key) (octets : List ℕ) (far : ℕ) → k.seq < 2 ^ 32 → ArePassed from 0 (keys_after_at n k octets) (keys_after_at (n - 0) (key_after k (far - far)) octets)
none_summed from n k octets far h =
    let same : k ≡ key_after k (far - far) = sym (no_gap_behind k h) ∙ ap (key_after k) (omega arith) in
    subst (λ (x : Key). ArePassed from 0 (keys_after_at n k octets) (keys_after_at (n - 0) x octets)) same (none_passed from n k octets)

-- one more is passed, whose gap leaves some of what was left
pub one_passed : (from : ℤ) (count passed : ℕ) (first : Key) (far left gap : ℕ) (rest after : List ℕ) (all : Option (List Key × List ℕ)) → FitsSigned w64 from → IsGapTo from first far → passed < count → left ≤ far → 0 < gap → gap < left →
    short_varint_at rest ≡ Some (gap, after) → ArePassed from passed all (keys_after_at (count - passed) (key_after first (far - left)) rest) →
    ArePassed from (passed + 1) all (keys_after_at (count - (passed + 1)) (key_after first (far - (left - gap))) after)
one_passed from count passed first far left gap rest after all fits is lt le some less e so_far =
    let last : Key = key_after first (far - left) in
    let sum : (far - left) + gap ≡ far - (left - gap) = omega arith in
    let same : key_after last gap ≡ key_after first (far - (left - gap)) = gaps_sum first (far - left) gap ∙ ap (key_after first) sum in
    let key : Key = key_after first (far - (left - gap)) in
    let before : key.time <ℤ from = before_time from first far (far - (left - gap)) is (omega arith) in
    let ok : is_gap last gap ≡ true = is_gap_before from last gap fits some (subst (λ (k : Key). k.time <ℤ from) (sym same) before) in
    let read : key_after_at last rest ≡ Some (key, after) = key_read last gap rest after e ok ∙ ap (λ (k : Key). Some (k, after)) same in (
      so_far.0 ++ key ∷ [],
      length-append so_far.0 (key ∷ []) ∙ ap (λ (n : ℕ). n + 1) so_far.1,
      all_append (λ k. k.time <ℤ from) so_far.0 key so_far.2 before,
      keys_more count passed so_far.0 last key rest after all lt read so_far.3,
    )

-- ---- the keys of a range behind them

filter_all : (p : Key → Bool) (keys : List Key) → AllByRecursion (λ k. p k ≡ true) keys → filter p keys ≡ keys
filter_all p [] all = refl
filter_all p (k ∷ keys) all = ap (λ (b : Bool). cond b (k ∷ filter p keys) (filter p keys)) all.0 ∙ ap (λ (ks : List Key). k ∷ ks) (filter_all p keys all.1)

filter_none : (p : Key → Bool) (keys : List Key) → AllByRecursion (λ k. p k ≡ false) keys → filter p keys ≡ []
filter_none p [] all = refl
filter_none p (k ∷ keys) all = ap (λ (b : Bool). cond b (k ∷ filter p keys) (filter p keys)) all.0 ∙ filter_none p keys all.1

int_lt_true : (a b : ℤ) → a <ℤ b → int_lt a b ≡ true
int_lt_true a b h = grind (arith, ints)

tests_before : (low : ℤ) (keys : List Key) → AllByRecursion (λ k. k.time <ℤ low) keys → AllByRecursion (λ k. int_lt k.time low ≡ true) keys
tests_before low [] all = tt
tests_before low (k ∷ keys) all = (int_lt_true k.time low all.0, tests_before low keys all.1)

tests_outside : (low high : ℤ) (keys : List Key) → AllByRecursion (λ k. k.time <ℤ low) keys → AllByRecursion (λ k. is_key_in_range low high k ≡ false) keys
tests_outside low high [] all = tt
tests_outside low high (k ∷ keys) all = (ap (λ (b : Bool). not b && int_lt k.time high) (int_lt_true k.time low all.0), tests_outside low high keys all.1)

-- keys before the range are counted
pub span_passed : (low high : ℤ) (keys front : List Key) (span new : KeysInRange) → AllByRecursion (λ k. k.time <ℤ low) front → new.before ≡ span.before + length front → new.keys ≡ span.keys →
    IsSpanOf low high keys span → IsSpanOf low high (keys ++ front) new
span_passed low high keys front span new all more same is =
    let test : Key → Bool = λ k. int_lt k.time low in
    let inside = is_key_in_range low high in
    record {
      before = more ∙ ap (λ (n : ℕ). n + length front) is.before ∙ sym (ap length (filter-append test keys front ∙ ap (λ (ks : List Key). filter test keys ++ ks) (filter_all test front (tests_before low front all))) ∙ length-append (filter test keys) front);
      inside = same ∙ is.inside ∙ sym (filter-append inside keys front ∙ ap (λ (ks : List Key). filter inside keys ++ ks) (filter_none inside front (tests_outside low high front all)) ∙ append-nil (filter inside keys));
    }

-- two fronts are one
fronts : (front more : List Key) (read : Option (List Key × List ℕ)) → with_front front (with_front more read) ≡ with_front (front ++ more) read
fronts front more None = refl
fronts front more (Some x) = ap (λ (ks : List Key). Some (ks, x.1)) (simp append_assoc)

pub walk_begins : (n passed : ℕ) (front more : List Key) (first last : Key) (octets rest : List ℕ) (total : Option (List Key × List ℕ)) → total ≡ with_front front (keys_after_at (n - 1) first octets) →
    keys_after_at (n - 1) first octets ≡ with_front more (keys_after_at (n - 1 - passed) last rest) → total ≡ with_front (front ++ more) (keys_after_at (n - (1 + passed)) last rest)
walk_begins n passed front more first last octets rest total e h =
    let same : n - 1 - passed ≡ n - (1 + passed) = omega arith in
    e ∙ ap (with_front front) h ∙ fronts front more (keys_after_at (n - 1 - passed) last rest) ∙ ap (λ (m : ℕ). with_front (front ++ more) (keys_after_at m last rest)) same
