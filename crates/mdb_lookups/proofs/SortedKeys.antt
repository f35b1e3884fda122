-- Keys with the numbers of their items: as they are collected, and once they are sorted.
use Rattle.std.proofs.Common.{◌≡◌, ◌∙◌, ◌<◌, ◌+◌, ◌-◌, ℕ, List, [], ◌∷◌, ◌++◌, length, get_or, inl, inr, refl, ap, sym, subst, arith}
use Rattle.std.specs.List.Sorted.{IsPermutation, IsSorted}
use Rattle.std.specs.Ordering.{nat_cmp, ordering_then}
use Rattle.std.specs.declared.cmp.Ordering.{Ordering}
use Rattle.std.proofs.lemmas.Bool.{cases_lt}
use Rattle.std.proofs.lemmas.List.{get_or_append_left, get_or-append_right, length-append}
use Rattle.std.proofs.lemmas.List.Sorted.{All-permutation, Contains-permutation}
use Rattle.mdb_lookups.specs.SortedKeys.{AreKeysSorted}

-- the first so many keys, each with its number
pub record AreNumbered {K : Type 0} (none : K) (keys : List K) (size : ℕ) (numbered : List (K × ℕ)) : Type 0 where
  pub count : length numbered ≡ size
  pub each : (k : ℕ) (d : K × ℕ) → k < size → get_or numbered k d ≡ (get_or keys k none, k)

pub none_numbered : {K : Type 0} (none : K) (keys : List K) → AreNumbered none keys 0 []
none_numbered none keys = record { count = refl; each = λ k d lt. absurd (omega arith) }

pub one_numbered : {K : Type 0} (none : K) (keys : List K) (count : ℕ) (numbered : List (K × ℕ)) (key : K) → AreNumbered none keys count numbered → key ≡ get_or keys count none
    → AreNumbered none keys (count + 1) (numbered ++ (key, count) ∷ [])
one_numbered none keys count numbered key a is = record {
  count = length-append numbered ((key, count) ∷ []) ∙ ap (λ n. n + 1) a.count;
  each = λ k d lt. elim (cases_lt k count) [
    | inl l ↦ get_or_append_left numbered ((key, count) ∷ []) d k (rw a.count l) ∙ a.each k d l
    | inr g ↦
        let same : k ≡ count = omega (arith, lt, g) in
        let zero : k - count ≡ 0 = omega (arith, lt, g) in
        get_or-append_right numbered ((key, count) ∷ []) count k d a.count g ∙ ap (λ n. get_or ((key, count) ∷ []) n d) zero
        ∙ (λ i. (is i, count)) ∙ (λ i. (get_or keys (sym same i) none, sym same i))
  ];
}

-- sorted, they are in the order of their keys
module _ {K : Type 0} (cmp : K → K → Ordering) (none : K) (keys : List K) (old new : List (K × ℕ)) where
  pub keys_sorted : AreNumbered none keys (length keys) old → IsPermutation old new → IsSorted (λ a b. ordering_then (cmp a.0 b.0) (nat_cmp a.1 b.1)) new → AreKeysSorted cmp none keys new
  keys_sorted numbered moved up = record {
    sorted = up;
    known = All-permutation (λ p. (p.1 < length keys) × (p.0 ≡ get_or keys p.1 none)) old new moved
        (λ k d lt. let k_is = numbered.each k d (rw (sym numbered.count) lt) in
        subst (λ (p : K × ℕ). (p.1 < length keys) × (p.0 ≡ get_or keys p.1 none)) (sym k_is) (subst (λ n. k < n) numbered.count lt, refl));
    each = λ n lt. Contains-permutation old new (get_or keys n none, n) moved (n, rw numbered.count lt, numbered.each n _ lt);
  }
