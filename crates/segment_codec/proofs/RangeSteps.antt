-- The keys of a range of times among keys that are read one after the other.
use Rattle.std.proofs.Common.{◌≡◌, ◌∙◌, ℕ, zero, suc, ℤ, pos, ◌+◌, ◌/◌, ◌^◌, ◌≤◌, Bool, true, false, cond, not, ◌&&◌, List, [], ◌∷◌, ◌++◌, length, Option, Some, None, refl, sym, ap, subst, append-nil, length-append, arith}
use Rattle.std.specs.Prelude.{◌+ℤ◌, ◌≤ℤ◌, filter, int_lt}
use Rattle.std.specs.List.{AllByRecursion}
use Rattle.std.proofs.lemmas.Int.{ints}
use Rattle.std.proofs.lemmas.List.Elements.{filter-append}
use Rattle.octet_fields.specs.Reading.{◌>>=◌, tested_at}
use Rattle.octet_fields.proofs.Exact.{bind_some, some_is, test_some}
use Rattle.octet_fields.proofs.Times.{with_front}
use Rattle.arch_types.specs.declared.key.Key.{Key}
use Rattle.segment_codec.specs.KeyColumn.{is_gap, key_after, key_after_at, keys_after_at}
use Rattle.segment_codec.specs.RangeColumn.{AreKeysUpTo, IsSpanOf, is_key_in_range, keys_before}
use Rattle.varints.specs.Varint.{short_varint_at}
use Rattle.segment_codec.specs.declared.range_column.KeysInRange.{KeysInRange}

-- ---- one key more

kept_key : (p : Key → Bool) (keys : List Key) (key : Key) → p key ≡ true → filter p (keys ++ key ∷ []) ≡ filter p keys ++ key ∷ []
kept_key p keys key e = filter-append p keys (key ∷ []) ∙ ap (λ (b : Bool). filter p keys ++ cond b (key ∷ []) []) e

left_key : (p : Key → Bool) (keys : List Key) (key : Key) → p key ≡ false → filter p (keys ++ key ∷ []) ≡ filter p keys
left_key p keys key e = filter-append p keys (key ∷ []) ∙ ap (λ (b : Bool). filter p keys ++ cond b (key ∷ []) []) e ∙ append-nil (filter p keys)

and_false : (a : Bool) → (a && false) ≡ false
and_false true = refl
and_false false = refl

-- a key before the range
pub span_before : (low high : ℤ) (keys : List Key) (key : Key) (span new : KeysInRange) → int_lt key.time low ≡ true → new.before ≡ span.before + 1 → new.keys ≡ span.keys →
    IsSpanOf low high keys span → IsSpanOf low high (keys ++ key ∷ []) new
span_before low high keys key span new below more same is =
    let test : Key → Bool = λ k. int_lt k.time low in
    let outside : is_key_in_range low high key ≡ false = ap (λ (b : Bool). not b && int_lt key.time high) below in
    let one : length (filter test (keys ++ key ∷ [])) ≡ length (filter test keys) + 1 = ap length (kept_key test keys key below) ∙ length-append (filter test keys) (key ∷ []) in
    record {
      before = more ∙ ap (λ (n : ℕ). n + 1) is.before ∙ sym one;
      inside = same ∙ is.inside ∙ sym (left_key (is_key_in_range low high) keys key outside);
    }

-- one in it
pub span_inside : (low high : ℤ) (keys : List Key) (key : Key) (span new : KeysInRange) → int_lt key.time low ≡ false → int_lt key.time high ≡ true → new.before ≡ span.before → new.keys ≡ span.keys ++ key ∷ [] →
    IsSpanOf low high keys span → IsSpanOf low high (keys ++ key ∷ []) new
span_inside low high keys key span new from below same more is =
    let inside : is_key_in_range low high key ≡ true = ap (λ (b : Bool). not b && int_lt key.time high) from ∙ below in
    record {
      before = same ∙ is.before ∙ sym (ap length (left_key (λ (k : Key). int_lt k.time low) keys key from));
      inside = more ∙ ap (λ (ks : List Key). ks ++ key ∷ []) is.inside ∙ sym (kept_key (is_key_in_range low high) keys key inside);
    }

-- one behind it
pub span_behind : (low high : ℤ) (keys : List Key) (key : Key) (span new : KeysInRange) → int_lt key.time low ≡ false → int_lt key.time high ≡ false → new.before ≡ span.before → new.keys ≡ span.keys →
    IsSpanOf low high keys span → IsSpanOf low high (keys ++ key ∷ []) new
span_behind low high keys key span new from above same kept is =
    let outside : is_key_in_range low high key ≡ false = ap (λ (b : Bool). not b && int_lt key.time high) from ∙ above in
    record {
      before = same ∙ is.before ∙ sym (ap length (left_key (λ (k : Key). int_lt k.time low) keys key from));
      inside = kept ∙ is.inside ∙ sym (left_key (is_key_in_range low high) keys key outside);
    }

pub no_keys : (low high : ℤ) (span : KeysInRange) → span.before ≡ 0 → span.keys ≡ [] → IsSpanOf low high [] span
no_keys low high span none same = record { before = none; inside = same }

-- ---- they're no more than all

count_cases : (a b : Bool) (k : Key) (xs ys : List Key) (n : ℕ) → length xs + length ys ≤ n → length (cond a (k ∷ xs) xs) + length (cond (not a && b) (k ∷ ys) ys) ≤ suc n
count_cases true b k xs ys n le = omega (arith, le)
count_cases false true k xs ys n le = omega (arith, le)
count_cases false false k xs ys n le = omega (arith, le)

pub count_within : (low high : ℤ) (keys : List Key) → keys_before low keys + length (filter (is_key_in_range low high) keys) ≤ length keys
count_within low high [] = omega arith
count_within low high (k ∷ keys) =
    count_cases (int_lt k.time low) (int_lt k.time high) k (filter (λ (x : Key). int_lt x.time low) keys) (filter (is_key_in_range low high) keys) (length keys) (count_within low high keys)

pub span_within : (low high : ℤ) (keys : List Key) (span : KeysInRange) → IsSpanOf low high keys span → span.before + length span.keys ≤ length keys
span_within low high keys span is = omega (arith, is.before, ap length is.inside, count_within low high keys)

-- ---- the keys behind one

not_int_lt : (a b : ℤ) → b ≤ℤ a → int_lt a b ≡ false
not_int_lt a b h = grind (arith, ints)

after_time : (t s : ℤ) (n : ℕ) → t ≤ℤ s → t ≤ℤ (s +ℤ pos n)
after_time t s n h = omega (arith, ints)

-- the key behind one lies so far behind it
key_passed : (last : Key) (octets : List ℕ) (k : Key) (after : List ℕ) → key_after_at last octets ≡ Some (k, after) → (n : ℕ) × (short_varint_at octets ≡ Some (n, after)) × (k ≡ key_after last n)
unfolding key_after_at
key_passed last octets k after e =
    let p = bind_some (tested_at (is_gap last) short_varint_at octets) (λ a. Some (key_after last a.0, a.1)) (k, after) e in
    let t = bind_some (short_varint_at octets) (λ a. cond (is_gap last a.0) (Some a) None) p.0 p.1 in
    let ok = test_some (is_gap last t.0.0) (Some t.0) p.0 t.2 in
    let made : Key × List ℕ = (key_after last p.0.0, p.0.1) in
    let same = some_is made (k, after) p.2 in
    (p.0.0, t.1 ∙ ok.1 ∙ ap (λ (y : Key × List ℕ). Some (p.0.0, y.1)) same, sym (ap (λ (y : Key × List ℕ). y.0) same))

keys_later : (n : ℕ) (last : Key) (octets : List ℕ) (keys : List Key) (after : List ℕ) (t : ℤ) → t ≤ℤ last.time → keys_after_at n last octets ≡ Some (keys, after) → AllByRecursion (λ (k : Key). t ≤ℤ k.time) keys
keys_later zero last octets keys after t le e =
    let made : List Key × List ℕ = ([], octets) in
    subst (λ (y : List Key × List ℕ). AllByRecursion (λ (k : Key). t ≤ℤ k.time) y.0) (some_is made (keys, after) e) tt
keys_later (suc n) last octets keys after t le e =
    let p = bind_some (key_after_at last octets) (λ k. keys_after_at n k.0 k.1 >>= λ more. Some (k.0 ∷ more.0, more.1)) (keys, after) e in
    let q = bind_some (keys_after_at n p.0.0 p.0.1) (λ more. Some (p.0.0 ∷ more.0, more.1)) (keys, after) p.2 in
    let k = key_passed last octets p.0.0 p.0.1 p.1 in
    let here : t ≤ℤ p.0.0.time = subst (λ (x : Key). t ≤ℤ x.time) (sym k.2) (after_time t last.time ((last.seq + k.0) / 2 ^ 32) le) in
    let made : List Key × List ℕ = (p.0.0 ∷ q.0.0, q.0.1) in
    subst (λ (y : List Key × List ℕ). AllByRecursion (λ (x : Key). t ≤ℤ x.time) y.0) (some_is made (keys, after) q.2) (here, keys_later n p.0.0 p.0.1 q.0.0 q.0.1 t here q.1)

pub none_before : (low : ℤ) (keys : List Key) → AllByRecursion (λ (k : Key). low ≤ℤ k.time) keys → filter (λ (k : Key). int_lt k.time low) keys ≡ []
none_before low [] all = refl
none_before low (k ∷ keys) all = ap (λ (b : Bool). cond b (k ∷ filter (λ (x : Key). int_lt x.time low) keys) (filter (λ (x : Key). int_lt x.time low) keys)) (not_int_lt k.time low all.0) ∙ none_before low keys all.1

pub none_inside : (low high : ℤ) (keys : List Key) → AllByRecursion (λ (k : Key). high ≤ℤ k.time) keys → filter (is_key_in_range low high) keys ≡ []
none_inside low high [] all = refl
none_inside low high (k ∷ keys) all =
    let outside : is_key_in_range low high k ≡ false = ap (λ (b : Bool). not (int_lt k.time low) && b) (not_int_lt k.time high all.0) ∙ and_false (not (int_lt k.time low)) in
    ap (λ (b : Bool). cond b (k ∷ filter (is_key_in_range low high) keys) (filter (is_key_in_range low high) keys)) outside ∙ none_inside low high keys all.1

-- where the other keys are behind the range, those so far are all
span_whole : (low high : ℤ) (front others : List Key) (span : KeysInRange) → IsSpanOf low high front span → AllByRecursion (λ (k : Key). low ≤ℤ k.time) others → AllByRecursion (λ (k : Key). high ≤ℤ k.time) others → IsSpanOf low high (front ++ others) span
span_whole low high front others span is above behind =
    let test : Key → Bool = λ k. int_lt k.time low in
    let inside = is_key_in_range low high in
    record {
      before = is.before ∙ sym (ap length (filter-append test front others ∙ ap (λ (ks : List Key). filter test front ++ ks) (none_before low others above) ∙ append-nil (filter test front)));
      inside = is.inside ∙ sym (filter-append inside front others ∙ ap (λ (ks : List Key). filter inside front ++ ks) (none_inside low high others behind) ∙ append-nil (filter inside front));
    }

-- ---- the walk

parted : (front keys : List Key) (read : Option (List Key × List ℕ)) (after : List ℕ) → with_front front read ≡ Some (keys, after) → (others : List Key) × (read ≡ Some (others, after)) × (keys ≡ front ++ others)
parted front keys read after e =
    let p = bind_some read (λ x. Some (front ++ x.0, x.1)) (keys, after) e in
    let made : List Key × List ℕ = (front ++ p.0.0, p.0.1) in
    let same = some_is made (keys, after) p.2 in
    (p.0.0, p.1 ∙ ap (λ (y : List Key × List ℕ). Some (p.0.0, y.1)) same, sym (ap (λ (y : List Key × List ℕ). y.0) same))

-- where the last key is behind the range, the keys in it are found
pub walk_ends : (low high : ℤ) (left : ℕ) (last : Key) (front keys : List Key) (rest after : List ℕ) (span : KeysInRange) → low ≤ℤ last.time → high ≤ℤ last.time → IsSpanOf low high front span →
    with_front front (keys_after_at left last rest) ≡ Some (keys, after) → IsSpanOf low high keys span
walk_ends low high left last front keys rest after span from to is e =
    let p = parted front keys (keys_after_at left last rest) after e in
    subst (λ (ks : List Key). IsSpanOf low high ks span) (sym p.2)
    (span_whole low high front p.0 span is (keys_later left last rest p.0 after low from p.1) (keys_later left last rest p.0 after high to p.1))

-- what is left of the keys
pub walk_leaves : (left : ℕ) (last : Key) (front keys : List Key) (rest after : List ℕ) → with_front front (keys_after_at left last rest) ≡ Some (keys, after) → AreKeysUpTo left rest after
walk_leaves left last front keys rest after e =
    let p = parted front keys (keys_after_at left last rest) after e in
    (last, p.0, p.1)

-- where no key is left, the front is all
pub walk_done : (low high : ℤ) (last : Key) (front keys : List Key) (rest after : List ℕ) (span : KeysInRange) → IsSpanOf low high front span → with_front front (keys_after_at 0 last rest) ≡ Some (keys, after) → IsSpanOf low high keys span
walk_done low high last front keys rest after span is e =
    let p = parted front keys (keys_after_at 0 last rest) after e in
    let made : List Key × List ℕ = ([], rest) in
    let none : [] ≡ p.0 = ap (λ (y : List Key × List ℕ). y.0) (some_is made (p.0, after) p.1) in
    subst (λ (ks : List Key). IsSpanOf low high ks span) (sym (p.2 ∙ ap (λ (ks : List Key). front ++ ks) (sym none) ∙ append-nil front)) is

-- ---- passing over gaps

-- the gap of one key more
pub gap_passed : (left : ℕ) (rest after : List ℕ) → AreKeysUpTo (suc left) rest after → (n : ℕ) × (next : List ℕ) × (short_varint_at rest ≡ Some (n, next)) × AreKeysUpTo left next after
gap_passed left rest after (last, keys, e) =
    let p = bind_some (key_after_at last rest) (λ k. keys_after_at left k.0 k.1 >>= λ more. Some (k.0 ∷ more.0, more.1)) (keys, after) e in
    let q = bind_some (keys_after_at left p.0.0 p.0.1) (λ more. Some (p.0.0 ∷ more.0, more.1)) (keys, after) p.2 in
    let k = key_passed last rest p.0.0 p.0.1 p.1 in
    let made : List Key × List ℕ = (p.0.0 ∷ q.0.0, q.0.1) in
    let end : q.0.1 ≡ after = ap (λ (y : List Key × List ℕ). y.1) (some_is made (keys, after) q.2) in
    (k.0, p.0.1, k.1, (p.0.0, q.0.0, q.1 ∙ ap (λ (r : List ℕ). Some (q.0.0, r)) end))

pub no_gap : (rest after : List ℕ) → AreKeysUpTo 0 rest after → rest ≡ after
no_gap rest after (last, keys, e) =
    let made : List Key × List ℕ = ([], rest) in
    ap (λ (y : List Key × List ℕ). y.1) (some_is made (keys, after) e)
