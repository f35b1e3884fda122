-- The order of intervals, and look-ups in it.
use Rattle.std.proofs.Common.{◌≡◌, ◌≢◌, ℤ, ◌≤ℤ◌, ◌<ℤ◌, ◌⊎◌, inl, inr, List, [], ◌∷◌, Bool, true, false, cond, Option, Some, None, refl, sym, subst, arith}
use Rattle.std.specs.Prelude.{slice_get, option_map}
use Rattle.std.specs.Option.{is_some}
use Rattle.std.specs.Ordering.{int_cmp, is_le, MatchOrdering}
use Rattle.std.specs.Cmp.{int_ranks, eq_by_cmp_equiv}
use Rattle.std.specs.declared.cmp.Ordering.{Ordering}
use Rattle.std.specs.declared.cmp.Ordering.TheVariants.{Less, Equal, Greater}
use Rattle.std.specs.Map.{lookup}
use Rattle.std.specs.BTreeMap.{is_at}
use Rattle.std.specs.BTreeMap.Range.{entries_from}
use Rattle.std.proofs.lemmas.Bool.{false_from_ne_true}
use Rattle.std.proofs.lemmas.Int.{ints}
use Rattle.std.proofs.lemmas.Map.Views.{tells_apart}
use Rattle.block_map.specs.Rising.{IsRising, IsBelow}
use Rattle.intervals.specs.declared.interval.Interval.{Interval}
use Rattle.intervals.specs.Interval.{interval_cmp}
use Rattle.intervals.proofs.Ranks.{interval_cmp_total, exact_intervals}
use Rattle.late_marks.specs.Marks.{IsLeast}

-- what an answer of the order says of two numbers
ranked_as : (a b : ℤ) (r : Ordering) → int_cmp a b ≡ r → MatchOrdering r (a <ℤ b) (a ≡ b) (b <ℤ a)
ranked_as a b r e = subst (λ k. MatchOrdering k (a <ℤ b) (a ≡ b) (b <ℤ a)) e (int_ranks a b)

pub same_at : (a b : Interval) → is_at (interval_cmp a) b ≡ true → a ≡ b
same_at = tells_apart exact_intervals

pub apart : (a b : Interval) → b ≢ a → is_at (interval_cmp a) b ≡ false
apart a b ne = false_from_ne_true _ (λ e. ne (sym (same_at a b e)))

no_less : (a b : ℤ) (r : Ordering) → int_cmp a b ≡ r → is_le r ≡ true → a ≤ℤ b
no_less a b Less e le = omega (arith, ints, ranked_as a b Less e)
no_less a b Equal e le = omega (arith, ints, ranked_as a b Equal e)
no_less a b Greater e le = cc

le_as : (a b : ℤ) (r : Ordering) → int_cmp a b ≡ r → a ≤ℤ b → is_le r ≡ true
le_as a b Less e le = refl
le_as a b Equal e le = refl
le_as a b Greater e le = absurd (omega (arith, ints, ranked_as a b Greater e, le))

pub itself : (i : Interval) → is_at (interval_cmp i) i ≡ true
itself i = (eq_by_cmp_equiv interval_cmp_total).refl i

-- an interval has an entry
abbrev pub Found : {V : Type 0} → List (Interval × V) → Interval → Type 0
Found es i = is_some (lookup (is_at (interval_cmp i)) es) ≡ true

module _ {V : Type 0} where
  found_cases : (b : Bool) (v : V) (o : Option V) → is_some (cond b (Some v) o) ≡ true → (P : Type 0) → (b ≡ true → P) → (is_some o ≡ true → P) → P
  found_cases true v o h P here there = here refl
  found_cases false v o h P here there = there h

  found_here : (b : Bool) (v : V) (o : Option V) → b ≡ true → is_some (cond b (Some v) o) ≡ true
  found_here true v o h = refl
  found_here false v o h = cc

  found_there : (b : Bool) (v : V) (o : Option V) → is_some o ≡ true → is_some (cond b (Some v) o) ≡ true
  found_there true v o h = refl
  found_there false v o h = h

  -- what stands among entries above an interval is above it
  above_it : (i j : Interval) (es : List (Interval × V)) → IsBelow interval_cmp i es → Found es j → i.0 ≤ℤ j.0
  above_it i j [] below found = cc
  above_it i j (e ∷ es) below found =
      found_cases (is_at (interval_cmp j) e.0) e.1 (lookup (is_at (interval_cmp j)) es) found (i.0 ≤ℤ j.0)
      (λ here. subst (λ (k : Interval). i.0 ≤ℤ k.0) (sym (same_at j e.0 here)) (omega (arith, ints, ranked_as i.0 e.0.0 Less below.0)))
      (λ there. above_it i j es below.1 there)

  -- the first entry is the least
  pub least_first : (es : List (Interval × V)) → IsRising interval_cmp es → (o : Option (Interval × V)) → o ≡ slice_get es 0 → IsLeast (Found es) (option_map (λ e. e.0) o)
  least_first [] up None e = λ i found. cc
  least_first [] up (Some x) e = absurd cc
  least_first (e ∷ es) up None is = absurd cc
  least_first (e ∷ es) up (Some x) is =
      let same : x ≡ e = cc in (
        found_here (is_at (interval_cmp x.0) e.0) e.1 _ (rw same (itself e.0)),
        λ j found. found_cases (is_at (interval_cmp j) e.0) e.1 (lookup (is_at (interval_cmp j)) es) found (x.0.0 ≤ℤ j.0)
            (λ here. rw same (subst (λ (k : Interval). e.0.0 ≤ℤ k.0) (sym (same_at j e.0 here)) (omega (arith, ints))))
            (λ there. rw same (above_it e.0 j es up.0 there)),
      )

  from_cases : (b : Bool) (e : Interval × V) (es : List (Interval × V)) (i : Interval) → Found (cond b (e ∷ es) es) i → (P : Type 0) → (b ≡ true → Found (e ∷ es) i → P) → (Found es i → P) → P
  from_cases true e es i found P kept left = kept refl found
  from_cases false e es i found P kept left = left found

  kept_from : (b : Bool) (e : Interval × V) (es : List (Interval × V)) (i : Interval) → (is_at (interval_cmp i) e.0 ≡ true → b ≡ true) → (is_at (interval_cmp i) e.0 ≡ true) ⊎ Found es i → Found (cond b (e ∷ es) es) i
  kept_from true e es i le (inl here) = found_here (is_at (interval_cmp i) e.0) e.1 _ here
  kept_from true e es i le (inr there) = found_there (is_at (interval_cmp i) e.0) e.1 _ there
  kept_from false e es i le (inl here) = absurd (let t = le here in cc)
  kept_from false e es i le (inr there) = there

  -- the entries from an interval on
  pub found_from : (from i : Interval) (es : List (Interval × V)) → Found (entries_from (interval_cmp from) es) i → (from.0 ≤ℤ i.0) × Found es i
  found_from from i [] found = cc
  found_from from i (e ∷ es) found =
      from_cases (is_le (interval_cmp from e.0)) e (entries_from (interval_cmp from) es) i found ((from.0 ≤ℤ i.0) × Found (e ∷ es) i)
      (λ le there. found_cases (is_at (interval_cmp i) e.0) e.1 (lookup (is_at (interval_cmp i)) (entries_from (interval_cmp from) es)) there ((from.0 ≤ℤ i.0) × Found (e ∷ es) i)
      (λ here. (subst (λ (k : Interval). from.0 ≤ℤ k.0) (sym (same_at i e.0 here)) (no_less from.0 e.0.0 _ refl le), found_here (is_at (interval_cmp i) e.0) e.1 _ here))
      (λ later. let rest = found_from from i es later in (rest.0, found_there (is_at (interval_cmp i) e.0) e.1 _ rest.1)))
      (λ later. let rest = found_from from i es later in (rest.0, found_there (is_at (interval_cmp i) e.0) e.1 _ rest.1))

  pub from_found : (from i : Interval) (es : List (Interval × V)) → from.0 ≤ℤ i.0 → Found es i → Found (entries_from (interval_cmp from) es) i
  from_found from i [] le found = cc
  from_found from i (e ∷ es) le found =
      kept_from (is_le (interval_cmp from e.0)) e (entries_from (interval_cmp from) es) i
      (λ here. le_as from.0 e.0.0 _ refl (subst (λ (k : Interval). from.0 ≤ℤ k.0) (same_at i e.0 here) le))
      (found_cases (is_at (interval_cmp i) e.0) e.1 (lookup (is_at (interval_cmp i)) es) found ((is_at (interval_cmp i) e.0 ≡ true) ⊎ Found (entries_from (interval_cmp from) es) i)
      (λ here. inl here)
      (λ there. inr (from_found from i es le there)))

-- a least one of two properties that say the same
pub IsLeast-same : (P Q : Interval → Type 0) (o : Option Interval) → ((i : Interval) → P i → Q i) → ((i : Interval) → Q i → P i) → IsLeast P o → IsLeast Q o
IsLeast-same P Q None to back least = λ i q. least i (back i q)
IsLeast-same P Q (Some l) to back least = (to l least.0, λ i q. least.1 i (back i q))
