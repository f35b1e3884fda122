-- What loops that read keep.
use Rattle.std.proofs.Common.{◌≡◌, ℕ, zero, suc, ◌-◌, ◌+◌, ◌≤◌, ◌<◌, List, [], ◌∷◌, ◌++◌, length, drop, drop-cons, add-one, get_or, Option, Some, None, refl, ap, ◌∙◌, append_assoc, arith}
use Rattle.std.proofs.lemmas.List.{append-nil, drop_all}
use Rattle.octet_fields.specs.Reading.{◌>>=◌}
use Rattle.octet_fields.proofs.Times.{with_front}
use Rattle.arch_types.specs.declared.key.Key.{Key}
use Rattle.segment_codec.specs.KeyColumn.{first_key_at, key_after_at, key_gap, key_gaps, keys_after_at, keys_at}
use Rattle.varints.specs.Varint.{varint}

started : (k : Key) (read : Option (List Key × List ℕ)) → ◌>>=◌ {A = (Key × List Key) × List ℕ} {B = List Key × List ℕ} (◌>>=◌ {A = List Key × List ℕ} {B = (Key × List Key) × List ℕ} read (λ b. Some ((k, b.0), b.1))) (λ a. Some (a.0.0 ∷ a.0.1, a.1)) ≡ with_front (k ∷ []) read
started k None = refl
started k (Some x) = refl

moved : (front : List Key) (k : Key) (read : Option (List Key × List ℕ)) → with_front front (read >>= λ more. Some (k ∷ more.0, more.1)) ≡ with_front (front ++ k ∷ []) read
moved front k None = refl
moved front k (Some x) = ap (λ (ks : List Key). Some (ks, x.1)) (simp append_assoc)

pub keys_start : (n : ℕ) (octets : List ℕ) (k : Key) (rest : List ℕ) → 1 ≤ n → first_key_at octets ≡ Some (k, rest) → keys_at n octets ≡ with_front (k ∷ []) (keys_after_at (n - 1) k rest)
unfolding keys_at
keys_start zero octets k rest some e = absurd (omega arith)
keys_start (suc n) octets k rest some e = let one : suc n - 1 ≡ n = omega arith in rw (e, one) (started k (keys_after_at n k rest))

pub keys_none : (n : ℕ) (octets : List ℕ) → first_key_at octets ≡ None → keys_at n octets ≡ None
unfolding keys_at
keys_none zero octets e = refl
keys_none (suc n) octets e = rw e refl

pub keys_more : (count i : ℕ) (front : List Key) (last k : Key) (octets after : List ℕ) (total : Option (List Key × List ℕ)) → i < count → key_after_at last octets ≡ Some (k, after) → total ≡ with_front front (keys_after_at (count - i) last octets) → total ≡ with_front (front ++ k ∷ []) (keys_after_at (count - (i + 1)) k after)
keys_more count i front last k octets after total lt h e = let n : count - i ≡ suc (count - (i + 1)) = omega arith in e ∙ rw (n, h) (moved front k (keys_after_at (count - (i + 1)) k after))

pub keys_ended : (count i : ℕ) (front : List Key) (last : Key) (octets : List ℕ) (total : Option (List Key × List ℕ)) → i < count → key_after_at last octets ≡ None → total ≡ with_front front (keys_after_at (count - i) last octets) → total ≡ None
keys_ended count i front last octets total lt h e = let n : count - i ≡ suc (count - (i + 1)) = omega arith in e ∙ rw (n, h) refl

pub keys_done : (count i : ℕ) (front : List Key) (last : Key) (octets : List ℕ) (total : Option (List Key × List ℕ)) → count ≤ i → total ≡ with_front front (keys_after_at (count - i) last octets) → total ≡ Some (front, octets)
keys_done count i front last octets total le e = let n : count - i ≡ 0 = omega arith in e ∙ rw n (ap (λ (ks : List Key). Some (ks, octets)) (append-nil front))

-- ---- what is written of the gaps

pub gaps_more : (out new : List ℕ) (last : Key) (ks : List Key) (i : ℕ) (d : Key) → i < length ks → new ≡ out ++ varint (key_gap last (get_or ks i d)) → new ++ key_gaps (get_or ks i d) (drop (i + 1) ks) ≡ out ++ key_gaps last (drop i ks)
gaps_more out new last ks i d lt e = rw (e, add-one, drop-cons ks i d) (append_assoc out (varint (key_gap last (get_or ks i d))) (key_gaps (get_or ks i d) (drop (suc i) ks)))

pub gaps_end : (out : List ℕ) (last : Key) (ks : List Key) (i : ℕ) → length ks ≤ i → out ++ key_gaps last (drop i ks) ≡ out
gaps_end out last ks i le = rw (drop_all i ks le) (append-nil out)
