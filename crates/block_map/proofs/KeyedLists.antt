-- Entries in strictly rising key order: what an insert and a removal are to a look-up, to the order and to the number of entries.
use Rattle.std.proofs.Common.{◌≡◌, ◌+◌, Bool, true, false, List, [], ◌∷◌, ◌++◌, length, Some, None, sym, ◌∙◌, ap, refl, arith}
use Rattle.std.specs.Prelude.{Option, Contains, filter, cond, IsSome, ◌↔◌}
use Rattle.std.specs.Cmp.{IsTotalOrder, eq_by_cmp_equiv}
use Rattle.std.specs.List.{AllByRecursion}
use Rattle.std.specs.List.Sorted.{IsStrictlySortedBy}
use Rattle.std.specs.Map.{lookup, remove_entry, keys_of}
use Rattle.std.specs.BTreeMap.{is_at, insert_entry}
use Rattle.std.specs.Ordering.{is_eq, match_ordering, eq_by_cmp}
use Rattle.std.specs.declared.cmp.Ordering.{Ordering}
use Rattle.std.specs.declared.cmp.Ordering.TheVariants.{Less, Equal, Greater}
use Rattle.std.proofs.lemmas.Map as maps
use Rattle.std.proofs.lemmas.Map.Keys.{IsDistinct-from_sorted}
use Rattle.std.proofs.lemmas.Map.Lookups.{CmpEqualImpliesEq}
use Rattle.std.proofs.lemmas.Map.Views.{Contains-from_lookup, lookup-from_Contains, tells_apart}
use Rattle.block_map.specs.Rising.{IsRising, IsBelow}
use Rattle.block_map.proofs.Rising.{flip_greater, below_all}

is_some-None : {X : Type 0} (o : Option X) (x : X) → o ≡ Some x → o ≡ None → ⊥
is_some-None o x some none = cc

module _ {K V : Type 0} (cmp : K → K → Ordering) where
  below_keys : (k : K) (es : List (K × V)) → IsBelow cmp k es → AllByRecursion (λ y. cmp k y ≡ Less) (keys_of es)
  below_keys k [] below = tt
  below_keys k (e ∷ es) below = (below.0, below_keys k es below.1)

  -- std's word for the order, which its lemmas on maps take
  pub sorted_from_rising : (es : List (K × V)) → IsRising cmp es → IsStrictlySortedBy cmp (keys_of es)
  unfolding IsStrictlySortedBy
  sorted_from_rising [] up = tt
  sorted_from_rising (e ∷ es) up = (below_keys e.0 es up.0, sorted_from_rising es up.1)

-- ---- a removal, by any test of the keys
module _ {K V : Type 0} (test : K → Bool) where
  removed_from : (P : List (K × V) → Type 0) (b : Bool) (e : K × V) (es : List (K × V)) → P es → P (e ∷ remove_entry test es) → P (cond b es (e ∷ remove_entry test es))
  removed_from P true e es gone kept = gone
  removed_from P false e es gone kept = kept

  pub all-remove_entry : (P : K × V → Type 0) (es : List (K × V)) → AllByRecursion P es → AllByRecursion P (remove_entry test es)
  all-remove_entry P [] all = tt
  all-remove_entry P (e ∷ es) all = removed_from (AllByRecursion P) (test e.0) e es all.1 (all.0, all-remove_entry P es all.1)

  pub rising-remove_entry : (cmp : K → K → Ordering) (es : List (K × V)) → IsRising cmp es → IsRising cmp (remove_entry test es)
  rising-remove_entry cmp [] up = tt
  rising-remove_entry cmp (e ∷ es) up = removed_from (IsRising cmp) (test e.0) e es up.1 (all-remove_entry (λ (x : K × V). cmp e.0 x.0 ≡ Less) es up.0, rising-remove_entry cmp es up.1)

  -- a removal takes one entry where its key is found, and else none
  pub length-remove_entry : (es : List (K × V)) → IsSome (lookup test es) → length (remove_entry test es) + 1 ≡ length es
  length-remove_entry [] found = cc
  length-remove_entry (e ∷ es) found = by (test e.0) found (length-remove_entry es)
    where
      by : (b : Bool) → IsSome (cond b (Some e.1) (lookup test es)) → (IsSome (lookup test es) → length (remove_entry test es) + 1 ≡ length es) → length (cond b es (e ∷ remove_entry test es)) + 1 ≡ length (e ∷ es)
      by true found later = omega arith
      by false found later = omega (arith, later found)

  pub remove_entry-absent : (es : List (K × V)) → lookup test es ≡ None → remove_entry test es ≡ es
  remove_entry-absent [] none = refl
  remove_entry-absent (e ∷ es) none = by (test e.0) none (remove_entry-absent es)
    where
      by : (b : Bool) → cond b (Some e.1) (lookup test es) ≡ None → (lookup test es ≡ None → remove_entry test es ≡ es) → cond b es (e ∷ remove_entry test es) ≡ e ∷ es
      by true none later = absurd (is_some-None (Some e.1) e.1 refl none)
      by false none later = ap (λ (l : List (K × V)). e ∷ l) (later none)

-- some of the entries rise as all do
pub rising-filter : {K V : Type 0} (cmp : K → K → Ordering) (p : K × V → Bool) (es : List (K × V)) → IsRising cmp es → IsRising cmp (filter p es)
rising-filter cmp p [] up = tt
rising-filter {K = K} {V = V} cmp p (e ∷ es) up = by (p e) (all es up.0) (rising-filter cmp p es up.1)
  where
    all : (xs : List (K × V)) → IsBelow cmp e.0 xs → IsBelow cmp e.0 (filter p xs)
    all [] below = tt
    all (x ∷ xs) below = one (p x) (all xs below.1)
      where
        one : (b : Bool) → IsBelow cmp e.0 (filter p xs) → IsBelow cmp e.0 (cond b (x ∷ filter p xs) (filter p xs))
        one true rest = (below.0, rest)
        one false rest = rest

    by : (b : Bool) → IsBelow cmp e.0 (filter p es) → IsRising cmp (filter p es) → IsRising cmp (cond b (e ∷ filter p es) (filter p es))
    by true below rest = (below, rest)
    by false below rest = rest

equal_is : (r : Ordering) → is_eq r ≡ true → r ≡ Equal
equal_is Less same = cc
equal_is Equal same = refl
equal_is Greater same = cc

one_key : {K : Type 0} {cmp : K → K → Ordering} → IsTotalOrder cmp → (k x y : K) → is_at (cmp k) x ≡ true → is_at (cmp k) y ≡ eq_by_cmp cmp x y
one_key {cmp = cmp} o k x y same = ap is_eq (o.congr k x y (equal_is (cmp k x) same))

module _ {K V : Type 0} {cmp : K → K → Ordering} (o : IsTotalOrder cmp) where
  -- ---- a look-up

  pub lookup-insert_entry : (q k : K) (v : V) (es : List (K × V)) → lookup (is_at (cmp q)) (insert_entry cmp es k v) ≡ cond (is_at (cmp k) q) (Some v) (lookup (is_at (cmp q)) es)
  lookup-insert_entry q k v [] = ap (λ (b : Bool). cond b (Some v) None) ((eq_by_cmp_equiv o).symm q k)
  lookup-insert_entry q k v (e ∷ es) = by (cmp k e.0) refl (lookup-insert_entry q k v es)
    where
      both : (b c : Bool) (x y z : Option V) → (b ≡ true → c ≡ true → ⊥) → cond c x (cond b y z) ≡ cond b y (cond c x z)
      both true true x y z apart = absurd (apart refl refl)
      both true false x y z apart = refl
      both false c x y z apart = refl

      twice : (b : Bool) (x y z : Option V) → cond b x z ≡ cond b x (cond b y z)
      twice true x y z = refl
      twice false x y z = refl

      by : (r : Ordering) → cmp k e.0 ≡ r → lookup (is_at (cmp q)) (insert_entry cmp es k v) ≡ cond (is_at (cmp k) q) (Some v) (lookup (is_at (cmp q)) es) →
          lookup (is_at (cmp q)) (match_ordering r ((k, v) ∷ e ∷ es) ((e.0, v) ∷ es) (e ∷ insert_entry cmp es k v)) ≡ cond (is_at (cmp k) q) (Some v) (lookup (is_at (cmp q)) (e ∷ es))
      by Less is later = ap (λ (b : Bool). cond b (Some v) (lookup (is_at (cmp q)) (e ∷ es))) ((eq_by_cmp_equiv o).symm q k)
      by Equal is later =
          let same : is_eq (cmp q e.0) ≡ is_eq (cmp k q) = (eq_by_cmp_equiv o).symm q e.0 ∙ ap is_eq (sym (o.congr k e.0 q is)) in
          rw same (twice (is_eq (cmp k q)) (Some v) (Some e.1) (lookup (is_at (cmp q)) es))
      by Greater is later =
          ap (λ (l : Option V). cond (is_eq (cmp q e.0)) (Some e.1) l) later ∙ both (is_eq (cmp k q)) (is_eq (cmp q e.0)) (Some e.1) (Some v) (lookup (is_at (cmp q)) es)
          (λ at there. (let same = o.congr k q e.0 (equal_is (cmp k q) at) in let equal = equal_is (cmp q e.0) there in cc))

  pub lookup-insert_entry_same : (k : K) (v : V) (es : List (K × V)) → lookup (is_at (cmp k)) (insert_entry cmp es k v) ≡ Some v
  lookup-insert_entry_same k v es = lookup-insert_entry k k v es ∙ ap (λ (b : Bool). cond b (Some v) (lookup (is_at (cmp k)) es)) ((eq_by_cmp_equiv o).refl k)

  pub lookup-insert_entry_other : (q k : K) (v : V) (es : List (K × V)) → is_at (cmp k) q ≡ false → lookup (is_at (cmp q)) (insert_entry cmp es k v) ≡ lookup (is_at (cmp q)) es
  lookup-insert_entry_other q k v es apart = lookup-insert_entry q k v es ∙ ap (λ (b : Bool). cond b (Some v) (lookup (is_at (cmp q)) es)) apart

  pub lookup-remove_entry : (q k : K) (es : List (K × V)) → IsRising cmp es → lookup (is_at (cmp q)) (remove_entry (is_at (cmp k)) es) ≡ cond (is_at (cmp k) q) None (lookup (is_at (cmp q)) es)
  lookup-remove_entry q k es up = maps.lookup-remove_entry (eq_by_cmp_equiv o) (is_at (cmp k)) (one_key o k) q es (IsDistinct-from_sorted cmp (keys_of es) (sorted_from_rising cmp es up))

  pub lookup-remove_entry_same : (k : K) (es : List (K × V)) → IsRising cmp es → lookup (is_at (cmp k)) (remove_entry (is_at (cmp k)) es) ≡ None
  lookup-remove_entry_same k es up = lookup-remove_entry k k es up ∙ ap (λ (b : Bool). cond b None (lookup (is_at (cmp k)) es)) ((eq_by_cmp_equiv o).refl k)

  pub lookup-remove_entry_other : (q k : K) (es : List (K × V)) → IsRising cmp es → is_at (cmp k) q ≡ false → lookup (is_at (cmp q)) (remove_entry (is_at (cmp k)) es) ≡ lookup (is_at (cmp q)) es
  lookup-remove_entry_other q k es up apart = lookup-remove_entry q k es up ∙ ap (λ (b : Bool). cond b None (lookup (is_at (cmp q)) es)) apart

  -- what a look-up finds is an entry, and the other way round, where equal keys are the same
  pub contained_iff : CmpEqualImpliesEq cmp → (k : K) (v : V) (es : List (K × V)) → IsRising cmp es → (lookup (is_at (cmp k)) es ≡ Some v) ↔ Contains es (k, v)
  contained_iff exact k v es up =
      (Contains-from_lookup (tells_apart exact) k v es, lookup-from_Contains (eq_by_cmp_equiv o) k v es (IsDistinct-from_sorted cmp (keys_of es) (sorted_from_rising cmp es up)))

  -- ---- the order

  below-insert_entry : (x k : K) (v : V) (es : List (K × V)) → cmp x k ≡ Less → IsBelow cmp x es → IsBelow cmp x (insert_entry cmp es k v)
  below-insert_entry x k v [] less below = (less, tt)
  below-insert_entry x k v (e ∷ es) less below = by (cmp k e.0) (below-insert_entry x k v es less below.1)
    where
      by : (r : Ordering) → IsBelow cmp x (insert_entry cmp es k v) → IsBelow cmp x (match_ordering r ((k, v) ∷ e ∷ es) ((e.0, v) ∷ es) (e ∷ insert_entry cmp es k v))
      by Less later = (less, below)
      by Equal later = (below.0, below.1)
      by Greater later = (below.0, later)

  pub rising-insert_entry : (k : K) (v : V) (es : List (K × V)) → IsRising cmp es → IsRising cmp (insert_entry cmp es k v)
  rising-insert_entry k v [] up = (tt, tt)
  rising-insert_entry k v (e ∷ es) up = by (cmp k e.0) refl (rising-insert_entry k v es up.1)
    where
      by : (r : Ordering) → cmp k e.0 ≡ r → IsRising cmp (insert_entry cmp es k v) → IsRising cmp (match_ordering r ((k, v) ∷ e ∷ es) ((e.0, v) ∷ es) (e ∷ insert_entry cmp es k v))
      by Less is later = ((is, below_all o k e.0 es is up.0), up)
      by Equal is later = (up.0, up.1)
      by Greater is later = (below-insert_entry e.0 k v es (flip_greater o k e.0 is) up.0, later)

module _ {K V : Type 0} (cmp : K → K → Ordering) (k : K) (v : V) where
  -- ---- an insert of a new key

  -- a new entry stands between the entries that were before it and those that were after it
  pub insert_entry-parts : (es : List (K × V)) → lookup (is_at (cmp k)) es ≡ None → (before : List (K × V)) × (after : List (K × V)) × (es ≡ before ++ after) × (insert_entry cmp es k v ≡ before ++ (k, v) ∷ after)
  insert_entry-parts [] none = ([], [], refl, refl)
  insert_entry-parts (e ∷ es) none = by (cmp k e.0) none (insert_entry-parts es)
    where
      by : (r : Ordering) → cond (is_eq r) (Some e.1) (lookup (is_at (cmp k)) es) ≡ None →
          (lookup (is_at (cmp k)) es ≡ None → (before : List (K × V)) × (after : List (K × V)) × (es ≡ before ++ after) × (insert_entry cmp es k v ≡ before ++ (k, v) ∷ after)) →
          (before : List (K × V)) × (after : List (K × V)) × (e ∷ es ≡ before ++ after) × (match_ordering r ((k, v) ∷ e ∷ es) ((e.0, v) ∷ es) (e ∷ insert_entry cmp es k v) ≡ before ++ (k, v) ∷ after)
      by Less none later = ([], e ∷ es, refl, refl)
      by Equal none later = absurd (is_some-None (Some e.1) e.1 refl none)
      by Greater none later = let p = later none in (e ∷ p.0, p.1, ap (λ (l : List (K × V)). e ∷ l) p.2, ap (λ (l : List (K × V)). e ∷ l) p.3)

  pub all-insert_entry : (P : K × V → Type 0) (es : List (K × V)) → lookup (is_at (cmp k)) es ≡ None → AllByRecursion P es → P (k, v) → AllByRecursion P (insert_entry cmp es k v)
  all-insert_entry P [] none all new = (new, tt)
  all-insert_entry P (e ∷ es) none all new = by (cmp k e.0) none (λ absent. all-insert_entry P es absent all.1 new)
    where
      by : (r : Ordering) → cond (is_eq r) (Some e.1) (lookup (is_at (cmp k)) es) ≡ None → (lookup (is_at (cmp k)) es ≡ None → AllByRecursion P (insert_entry cmp es k v)) →
          AllByRecursion P (match_ordering r ((k, v) ∷ e ∷ es) ((e.0, v) ∷ es) (e ∷ insert_entry cmp es k v))
      by Less none later = (new, all)
      by Equal none later = absurd (is_some-None (Some e.1) e.1 refl none)
      by Greater none later = (all.0, later none)

  pub length-insert_entry : (es : List (K × V)) → lookup (is_at (cmp k)) es ≡ None → length (insert_entry cmp es k v) ≡ length es + 1
  length-insert_entry [] none = refl
  length-insert_entry (e ∷ es) none = by (cmp k e.0) none (length-insert_entry es)
    where
      by : (r : Ordering) → cond (is_eq r) (Some e.1) (lookup (is_at (cmp k)) es) ≡ None → (lookup (is_at (cmp k)) es ≡ None → length (insert_entry cmp es k v) ≡ length es + 1) →
          length (match_ordering r ((k, v) ∷ e ∷ es) ((e.0, v) ∷ es) (e ∷ insert_entry cmp es k v)) ≡ length (e ∷ es) + 1
      by Less none later = omega arith
      by Equal none later = absurd (is_some-None (Some e.1) e.1 refl none)
      by Greater none later = omega (arith, later none)
