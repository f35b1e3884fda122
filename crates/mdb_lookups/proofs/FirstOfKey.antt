-- Items sorted by a key and then by their number: the first that isn't below a key is the one with the least number of that key.
use Rattle.std.proofs.Common.{◌≡◌, ◌∙◌, ◌<◌, ◌≤◌, ◌+◌, ℕ, List, length, get_or, Some, None, Bool, true, false, refl, ap, sym, arith, le-ltb, lt-ltb, true≢false, inl, inr}
use Rattle.std.specs.Cmp.{IsTotalOrder, IsStrictWeakOrder, tied_back}
use Rattle.std.specs.List.{AllWithin, position}
use Rattle.std.specs.List.Sorted.{IsSortedBy, IsPartitionedBy}
use Rattle.std.specs.Ordering.{nat_cmp, is_eq, is_lt, ordering_index, ordering_reverse, ordering_then}
use Rattle.std.specs.declared.cmp.Ordering.{Ordering}
use Rattle.std.specs.declared.cmp.Ordering.TheVariants.{Less, Equal, Greater}
use Rattle.std.proofs.lemmas.Bool.{cases_lt}
use Rattle.std.proofs.lemmas.Cmp.{nat_cmp_total, on_total, then_total}
use Rattle.std.proofs.lemmas.List.{get_or_default}
use Rattle.std.proofs.lemmas.List.MinMax.{ranks_by}
use Rattle.std.proofs.lemmas.List.Sorted.{searchable_from_sorted, sorted_far}
use Rattle.std.proofs.lemmas.List.Sums.{position_or_len_is}

less_then : (r s : Ordering) → is_lt (ordering_then r s) ≡ false → is_lt r ≡ false
less_then Less s h = h
less_then Equal s h = refl
less_then Greater s h = refl

lower : (r s : Ordering) → ordering_index r ≤ ordering_index s → is_lt s ≡ true → is_lt r ≡ true
lower Less s h t = refl
lower Equal Less h t = absurd (omega arith)
lower Equal Equal h t = t
lower Equal Greater h t = t
lower Greater Less h t = absurd (omega arith)
lower Greater Equal h t = t
lower Greater Greater h t = t

not_equal : (r : Ordering) → is_lt r ≡ true → is_eq (ordering_reverse r) ≡ false
not_equal Less h = refl
not_equal Equal h = absurd (true≢false (sym h))
not_equal Greater h = absurd (true≢false (sym h))

neither : (r : Ordering) → is_lt r ≡ false → is_lt (ordering_reverse r) ≡ false → is_eq r ≡ true
neither Less h g = absurd (true≢false h)
neither Equal h g = refl
neither Greater h g = absurd (true≢false g)

is_equal : (r : Ordering) → is_eq r ≡ true → r ≡ Equal
is_equal Less h = absurd (true≢false (sym h))
is_equal Equal h = refl
is_equal Greater h = absurd (true≢false (sym h))

less : (a b : ℕ) → a < b → is_lt (nat_cmp a b) ≡ true
less a b lt = rw (lt-ltb a b lt) refl

module _ {K : Type 0} (p : K → Bool) (ks : List K) (d : K) where
  at_place : (i : ℕ) → i < length ks → p (get_or ks i d) ≡ true → ((m : ℕ) → m < i → p (get_or ks m d) ≡ false) → position p ks ≡ Some i
  at_place i lt here before = rw (position_or_len_is p ks i d (omega arith) before (λ _. here), lt-ltb i (length ks) lt) refl

  no_place : ((m : ℕ) → m < length ks → p (get_or ks m d) ≡ false) → position p ks ≡ None
  no_place none = rw (position_or_len_is p ks (length ks) d (omega arith) none (λ lt. absurd (omega arith)), le-ltb (length ks) (length ks) (omega arith)) refl

refute : (b : Bool) → (b ≡ true → ⊥) → b ≡ false
refute true h = absurd (h refl)
refute false h = refl

module _ {X K : Type 0} {R : K → K → Ordering} (o : IsTotalOrder R) (key : X → K) (num : X → ℕ) (es : List X)
    (up : IsSortedBy (λ a b. is_lt (ordering_then (R (key a) (key b)) (nat_cmp (num a) (num b)))) es) (x : K) where
  by_key : IsSortedBy (λ a b. is_lt (R (key a) (key b))) es
  by_key i d low high = less_then _ _ (up i d low high)

  pub parted : IsPartitionedBy (λ e. is_lt (R (key e) x)) es
  parted i j d le lt h = lower _ _ (searchable_from_sorted o key es x by_key i j d le lt) h

  pub more_below : (k : ℕ) (e : X) → k < length es → is_lt (R (key (get_or es k e)) x) ≡ true → AllWithin (λ e. is_lt (R (key e) x) ≡ true) es 0 (k + 1)
  more_below k e lt h i d low high = parted i k d (omega arith) lt (ap (λ y. is_lt (R (key y) x)) (get_or_default es k d e lt) ∙ h)

  pub more_above : (k : ℕ) (e : X) → k < length es → is_lt (R (key (get_or es k e)) x) ≡ false → AllWithin (λ e. is_lt (R (key e) x) ≡ false) es k (length es)
  more_above k e lt h i d low high = refute _ (λ t. true≢false (sym (parted k i d low high t) ∙ ap (λ y. is_lt (R (key y) x)) (get_or_default es k d e lt) ∙ h))

  by_both : IsStrictWeakOrder (λ a b. is_lt (ordering_then (R (key a) (key b)) (nat_cmp (num a) (num b))))
  by_both = ranks_by (then_total (on_total key o) (on_total num nat_cmp_total)) (λ e. e)

  module _ (ks : List K) (kd : K) (d : X)
      (own : (j : ℕ) → j < length es → key (get_or es j d) ≡ get_or ks (num (get_or es j d)) kd)
      (each : (m : ℕ) → m < length ks → (j : ℕ) × (j < length es) × (num (get_or es j d) ≡ m))
      (p : K → Bool) (same : (y : K) → p y ≡ is_eq (R x y))
      (k : ℕ) (below : AllWithin (λ e. is_lt (R (key e) x) ≡ true) es 0 k) where
    level : (m : ℕ) (lt : m < length ks) → p (get_or ks m kd) ≡ true → R (key (get_or es (each m lt).0 d)) x ≡ Equal
    level m lt h =
        let at = each m lt in
        let e : key (get_or es at.0 d) ≡ get_or ks m kd = own at.0 at.1 ∙ ap (λ n. get_or ks n kd) at.2 in
        ap (λ y. R y x) e ∙ tied_back o x (get_or ks m kd) (is_equal _ (sym (same _) ∙ h))

    -- an item of the key stands at the place or after it
    after : (m : ℕ) (lt : m < length ks) → p (get_or ks m kd) ≡ true → k ≤ (each m lt).0
    after m lt h = elim (cases_lt (each m lt).0 k) [
      | inl l ↦ absurd (true≢false (sym (below (each m lt).0 d (omega arith) l) ∙ ap is_lt (level m lt h)))
      | inr g ↦ g
    ]

    pub none_past : length es ≤ k → position p ks ≡ None
    none_past past = no_place p ks kd (λ m lt. refute _ (λ h.
        let l = after m lt h in
        let g = (each m lt).1 in
        omega (arith, l, g)))

    pub first_here : k < length es → R (key (get_or es k d)) x ≡ Equal → num (get_or es k d) < length ks → position p ks ≡ Some (num (get_or es k d))
    first_here lt tied within =
        let e = get_or es k d in
        let here : p (get_or ks (num e) kd) ≡ true = same _ ∙ ap (λ y. is_eq (R x y)) (sym (own k lt)) ∙ ap is_eq (tied_back o (key e) x tied) in
        at_place p ks kd (num e) within here (λ m low. refute _ (λ h.
        let ml : m < length ks = omega (arith, low, within) in
        let at = each m ml in
        let f = get_or es at.0 d in
        let equal : R (key f) (key e) ≡ Equal = o.congr (key f) x (key e) (level m ml h) ∙ tied_back o (key e) x tied in
        let far = sorted_far (λ a b. is_lt (ordering_then (R (key a) (key b)) (nat_cmp (num a) (num b)))) by_both es up k at.0 d (after m ml h) at.1 in
        true≢false (sym (less m (num e) low) ∙ ap (λ i. is_lt (nat_cmp i (num e))) (sym at.2) ∙ ap (λ r. is_lt (ordering_then r (nat_cmp (num f) (num e)))) (sym equal) ∙ far)))

    pub none_here : k < length es → is_lt (R (key (get_or es k d)) x) ≡ false → is_eq (R (key (get_or es k d)) x) ≡ false → position p ks ≡ None
    none_here lt above other =
        let e = get_or es k d in
        no_place p ks kd (λ m ml. refute _ (λ h.
        let at = each m ml in
        let f = get_or es at.0 d in
        let turned : R (key f) (key e) ≡ ordering_reverse (R (key e) x) = o.congr (key f) x (key e) (level m ml h) ∙ o.antisymm x (key e) in
        let far = sorted_far (λ a b. is_lt (R (key a) (key b))) (ranks_by o key) es by_key k at.0 d (after m ml h) at.1 in
        true≢false (sym (neither _ above (ap is_lt (sym turned) ∙ far)) ∙ other)))
