-- A sort of rows whose keys differ gives the one list of them in which the keys rise.
use Rattle.std.proofs.Common.{◌≡◌, ◌∙◌, ℕ, zero, suc, ◌+◌, ◌<◌, List, [], ◌∷◌, length, map, get_or, Bool, true, false, cond, ◌⊎◌, inl, inr, refl, sym, ap, subst, arith}
use Rattle.std.specs.Prelude.{filter}
use Rattle.std.specs.List.{AllByRecursion, Contains, IsDistinct}
use Rattle.std.specs.List.Sorted.{IsPermutation, IsSortedBy, IsStrictlySortedBy}
use Rattle.std.specs.Ordering.{is_lt, is_eq, eq_by_cmp, ordering_reverse}
use Rattle.std.specs.declared.cmp.Ordering.{Ordering}
use Rattle.std.specs.declared.cmp.Ordering.TheVariants.{Less, Equal, Greater}
use Rattle.std.specs.Cmp.{IsStrictWeakOrder}
use Rattle.std.proofs.lemmas.List.{length-map}
use Rattle.std.proofs.Math.ListN.{get_or-map}
use Rattle.std.proofs.lemmas.List.Sorted.{ranks_by, IsPermutation-map, IsPermutation-sym, IsPermutation-trans, Contains-permutation}
use Rattle.std.proofs.lemmas.Map.Keys.{IsDistinct-from_sorted, IsDistinct-IsPermutation, apart_from_distinct, sorted_from_all_adjacent, sorted_head, sorted_tail}
use Rattle.arch_types.specs.declared.key.Key.{Key}
use Rattle.arch_types.specs.Order.{key_cmp}
use Rattle.arch_types.proofs.Ranks.{key_cmp_total}
use Rattle.param_segments.proofs.Ordering.{IsRising}

-- ---- keys that differ

ranked : (a b : Key) (o : Ordering) → key_cmp a b ≡ o → eq_by_cmp key_cmp a b ≡ false → is_lt (key_cmp b a) ≡ false → key_cmp a b ≡ Less
ranked a b Less e apart above = e
ranked a b Equal e apart above = absurd (let f : eq_by_cmp key_cmp a b ≡ true = ap is_eq e in cc)
ranked a b Greater e apart above = absurd (let f : is_lt (key_cmp b a) ≡ true = ap is_lt (key_cmp_total.antisymm b a ∙ ap ordering_reverse e) in cc)

pub flips : (x y : Key) → eq_by_cmp key_cmp x y ≡ eq_by_cmp key_cmp y x
flips x y = turned (key_cmp x y) (key_cmp y x) (key_cmp_total.antisymm x y)
  where
    turned : (o p : Ordering) → o ≡ ordering_reverse p → is_eq o ≡ is_eq p
    turned o Less e = ap is_eq e
    turned o Equal e = ap is_eq e
    turned o Greater e = ap is_eq e

module _ {X : Type 0} (key : X → Key) where
  abbrev earlier : X → X → Bool
  earlier a b = is_lt (key_cmp (key a) (key b))

  pub rank : IsStrictWeakOrder earlier
  rank = ranks_by key_cmp_total key

  -- ---- two rising lists with the same items are one

  abbrev IsItem : X → List X → Type 0
  IsItem z [] = ⊥
  IsItem z (x ∷ xs) = (z ≡ x) ⊎ IsItem z xs

  below : (P : X → Type 0) (z : X) (xs : List X) → AllByRecursion P xs → IsItem z xs → P z
  below P z [] all is = absurd is
  below P z (x ∷ xs) all (inl e) = subst P (sym e) all.0
  below P z (x ∷ xs) all (inr m) = below P z xs all.1 m

  clash : (x y : X) → earlier x y ≡ true → earlier y x ≡ true → ⊥
  clash x y h k = let f = rank.one_way x y h in cc

  heads : (x y : X) (xs ys : List X) → AllByRecursion (λ z. earlier x z ≡ true) xs → AllByRecursion (λ z. earlier y z ≡ true) ys → (x ≡ y) ⊎ IsItem x ys → (y ≡ x) ⊎ IsItem y xs → x ≡ y
  heads x y xs ys ux uy (inl e) back = e
  heads x y xs ys ux uy (inr m) (inl e) = sym e
  heads x y xs ys ux uy (inr m) (inr k) = absurd (clash x y (below (λ z. earlier x z ≡ true) y xs ux k) (below (λ z. earlier y z ≡ true) x ys uy m))

  later : (x z : X) (xs ys : List X) → AllByRecursion (λ z. earlier x z ≡ true) xs → IsItem z xs → (z ≡ x) ⊎ IsItem z ys → IsItem z ys
  later x z xs ys ux m (inr k) = k
  later x z xs ys ux m (inl e) = absurd (let h = below (λ z. earlier x z ≡ true) z xs ux m in let self : earlier x x ≡ true = ap (earlier x) (sym e) ∙ h in clash x x self self)

  rising_is : (xs ys : List X) → IsRising earlier xs → IsRising earlier ys → ((z : X) → IsItem z xs → IsItem z ys) → ((z : X) → IsItem z ys → IsItem z xs) → xs ≡ ys
  rising_is [] [] ux uy there back = refl
  rising_is [] (y ∷ ys) ux uy there back = absurd (back y (inl refl))
  rising_is (x ∷ xs) [] ux uy there back = absurd (there x (inl refl))
  rising_is (x ∷ xs) (y ∷ ys) ux uy there back =
      let same = heads x y xs ys ux.0 uy.0 (there x (inl refl)) (back y (inl refl)) in
      let on : (z : X) → IsItem z xs → IsItem z ys = λ z m. later x z xs ys ux.0 m (subst (λ (w : X). (z ≡ w) ⊎ IsItem z ys) (sym same) (there z (inr m))) in
      let off : (z : X) → IsItem z ys → IsItem z xs = λ z m. later y z ys xs uy.0 m (subst (λ (w : X). (z ≡ w) ⊎ IsItem z xs) same (back z (inr m))) in
      ap (λ (w : X). w ∷ xs) same ∙ ap (λ (ws : List X). y ∷ ws) (rising_is xs ys ux.1 uy.1 on off)

  item_from : (z : X) (xs : List X) (k : ℕ) → k < length xs → get_or xs k z ≡ z → IsItem z xs
  item_from z [] k lt e = absurd (omega arith)
  item_from z (x ∷ xs) zero lt e = inl (sym e)
  item_from z (x ∷ xs) (suc k) lt e = inr (item_from z xs k (omega arith) e)

  item_of : (z : X) (xs : List X) → Contains xs z → IsItem z xs
  item_of z xs h = item_from z xs h.0 h.1 h.2

  contains_from : (z : X) (xs : List X) → IsItem z xs → Contains xs z
  contains_from z [] m = absurd m
  contains_from z (x ∷ xs) (inl e) = (0, omega arith, sym e)
  contains_from z (x ∷ xs) (inr m) = let h = contains_from z xs m in (suc h.0, omega (arith, h.1), h.2)

  -- two rising lists of the same items are one
  pub permuted_is : (xs ys : List X) → IsRising earlier xs → IsRising earlier ys → IsPermutation xs ys → xs ≡ ys
  permuted_is xs ys ux uy same =
      rising_is xs ys ux uy (λ z m. item_of z ys (Contains-permutation xs ys z same (contains_from z xs m))) (λ z m. item_of z xs (Contains-permutation ys xs z (IsPermutation-sym xs ys same) (contains_from z ys m)))

  -- ---- a part of them

  in_cases : (p : X → Bool) (x z : X) (xs : List X) (b : Bool) → p x ≡ b → (IsItem z (filter p xs) → IsItem z xs × (p z ≡ true)) → IsItem z (cond b (x ∷ filter p xs) (filter p xs)) → IsItem z (x ∷ xs) × (p z ≡ true)
  in_cases p x z xs true e more (inl same) = (inl same, ap p same ∙ e)
  in_cases p x z xs true e more (inr m) = let n = more m in (inr n.0, n.1)
  in_cases p x z xs false e more m = let n = more m in (inr n.0, n.1)

  in_filter : (p : X → Bool) (xs : List X) (z : X) → IsItem z (filter p xs) → IsItem z xs × (p z ≡ true)
  in_filter p [] z m = absurd m
  in_filter p (x ∷ xs) z m = in_cases p x z xs (p x) refl (in_filter p xs z) m

  to_filter : (p : X → Bool) (xs : List X) (z : X) → IsItem z xs → p z ≡ true → IsItem z (filter p xs)
  to_filter p [] z m passes = absurd m
  to_filter p (x ∷ xs) z (inl same) passes = subst (λ (b : Bool). IsItem z (cond b (x ∷ filter p xs) (filter p xs))) (sym (ap p (sym same) ∙ passes)) (inl same)
  to_filter p (x ∷ xs) z (inr m) passes = further (p x) (to_filter p xs z m passes)
    where
      further : (b : Bool) → IsItem z (filter p xs) → IsItem z (cond b (x ∷ filter p xs) (filter p xs))
      further true n = inr n
      further false n = n

  -- rising items that pass a test are those of the same items in another order, where these rise
  pub filtered_is : (p : X → Bool) (mixed sorted own : List X) → IsRising earlier (filter p sorted) → IsRising earlier own → IsPermutation mixed sorted → filter p mixed ≡ own → filter p sorted ≡ own
  filtered_is p mixed sorted own up rises same is =
      rising_is (filter p sorted) own up rises
      (λ z m. let n = in_filter p sorted z m in subst (IsItem z) is (to_filter p mixed z (item_of z mixed (Contains-permutation sorted mixed z (IsPermutation-sym mixed sorted same) (contains_from z sorted n.0))) n.1))
      (λ z m. let n = in_filter p mixed z (subst (IsItem z) (sym is) m) in to_filter p sorted z (item_of z sorted (Contains-permutation mixed sorted z same (contains_from z mixed n.0))) n.1)

  -- ---- what a sort gives rises

  less_is : (o : Ordering) → o ≡ Less → is_lt o ≡ true
  less_is Less e = refl
  less_is _ e = absurd cc

  all_earlier : (k : Key) (ts : List X) → AllByRecursion (λ y. key_cmp k y ≡ Less) (map key ts) → AllByRecursion (λ z. is_lt (key_cmp k (key z)) ≡ true) ts
  all_earlier k [] all = tt
  all_earlier k (t ∷ ts) all = (less_is (key_cmp k (key t)) all.0, all_earlier k ts all.1)

  pub rising : (ts : List X) → IsStrictlySortedBy key_cmp (map key ts) → IsRising earlier ts
  rising [] up = tt
  rising (t ∷ ts) up = (all_earlier (key t) ts (sorted_head key_cmp (key t) (map key ts) up), rising ts (sorted_tail key_cmp (key t) (map key ts) up))

  abbrev keys : List X → List Key
  keys ts = map key ts

  key_at : (ts : List X) (k : ℕ) (d : X) → get_or (keys ts) k (key d) ≡ key (get_or ts k d)
  key_at ts k d = get_or-map key ts k d

  pub sorted_rises : (d : X) (ts : List X) → IsSortedBy earlier ts → IsDistinct (eq_by_cmp key_cmp) (keys ts) → IsStrictlySortedBy key_cmp (keys ts)
  sorted_rises d ts up distinct = sorted_from_all_adjacent key_cmp_total (keys ts) (key d) (λ k lt.
      let len : length (keys ts) ≡ length ts = length-map ts key in
      let a = get_or (keys ts) k (key d) in
      let b = get_or (keys ts) (k + 1) (key d) in
      let apart = apart_from_distinct (eq_by_cmp key_cmp) (keys ts) k (k + 1) (key d) distinct (omega arith) lt in
      let above : is_lt (key_cmp b a) ≡ false = ap (λ (x : Key). is_lt (key_cmp x a)) (key_at ts (k + 1) d) ∙ ap (λ (x : Key). is_lt (key_cmp (key (get_or ts (k + 1) d)) x)) (key_at ts k d) ∙ up k d (omega arith) (omega arith) in
      ranked a b (key_cmp a b) refl apart above)

  -- rows of rising keys, in any order, sorted by key are they
  pub sorted_is : (d : X) (ts mixed sorted : List X) → IsStrictlySortedBy key_cmp (keys ts) → IsPermutation ts mixed → IsPermutation mixed sorted → IsSortedBy earlier sorted → sorted ≡ ts
  sorted_is d ts mixed sorted strict some all up =
      let whole = IsPermutation-trans ts mixed sorted some all in
      let distinct = IsDistinct-IsPermutation (eq_by_cmp key_cmp) flips (keys ts) (keys sorted) (IsPermutation-map key ts sorted whole) (IsDistinct-from_sorted key_cmp (keys ts) strict) in
      let sorted_up = sorted_rises d sorted up distinct in
      rising_is sorted ts (rising sorted sorted_up) (rising ts strict)
      (λ z m. item_of z ts (Contains-permutation sorted ts z (IsPermutation-sym ts sorted whole) (contains_from z sorted m)))
      (λ z m. item_of z sorted (Contains-permutation ts sorted z whole (contains_from z ts m)))
