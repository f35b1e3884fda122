-- Which partitions are in a list.
use Rattle.std.proofs.Common.{◌≡◌, ◌⊎◌, ◌↔◌, inl, inr, ◌+◌, pos, List, [], ◌∷◌, map, Bool, true, false, cond, Some, sym, ◌∙◌, ap, subst, refl, arith}
use Rattle.std.specs.Prelude.{filter, Contains, IsSome, slice_index_or}
use Rattle.std.specs.List.{AllByRecursion, IsDistinct}
use Rattle.std.specs.List.Sorted.{IsPermutation, IsSorted}
use Rattle.std.specs.Map.{lookup, keys_of}
use Rattle.std.specs.BTreeMap.{is_at, insert_entry}
use Rattle.std.specs.Cmp.{IsTotalOrder, eq_by_cmp_equiv}
use Rattle.std.specs.Ordering.{eq_by_cmp, is_lt, is_eq}
use Rattle.std.specs.declared.cmp.Ordering.{Ordering}
use Rattle.std.specs.declared.cmp.Ordering.TheVariants.{Less, Equal, Greater}
use Rattle.std.proofs.lemmas.Bool.{false_from_ne_true}
use Rattle.std.proofs.lemmas.List.{length-map}
use Rattle.std.proofs.Math.ListN.{get_or-map}
use Rattle.std.proofs.lemmas.List.Elements.{Contains-append_cases, Contains-append_left, Contains-append_right, Contains-push_cases, All-contains, All-filter, All-contains_itself, filter_passes}
use Rattle.std.proofs.lemmas.List.Kept.{IsStrictlySortedBy-filter}
use Rattle.std.proofs.lemmas.List.Sorted.{Contains-permutation, IsPermutation-sym, sorted_far, ranks_by}
use Rattle.std.proofs.lemmas.Map.Keys.{IsDistinct-from_sorted, IsDistinct-IsPermutation, apart_from_distinct, sorted_from_all_adjacent}
use Rattle.std.proofs.lemmas.Map.Lookups.{CmpEqualImpliesEq}
use Rattle.std.proofs.lemmas.Map.Views.{Contains-keys_from_lookup, IsSome-lookup_from_Contains, tells_apart}
use Rattle.block_map.specs.Rising.{IsRising}
use Rattle.block_map.proofs.Rising.{flip_greater}
use Rattle.block_map.proofs.KeyedLists.{sorted_from_rising, lookup-insert_entry}
use Rattle.partitions.specs.declared.partition.Partition.{Partition}
use Rattle.partitions.specs.declared.name_day.NameDay.{NameDay}
use Rattle.partitions.specs.Partition.{partition_cmp}
use Rattle.partitions.specs.NameDay.{name_day_cmp, name_day}
use Rattle.partitions.specs.Partitions.{AreRising}
use Rattle.partitions.proofs.Order.{partition_cmp_total, exact_partitions, together}
use Rattle.partitions.proofs.NamedOrder.{named_cmp_total}

-- ---- what a filter keeps

module _ {X : Type 0} (test : X → Bool) where
  kept : (x y : X) (ys : List X) (b : Bool) → test y ≡ b → Contains (y ∷ ys) x → test x ≡ true → (Contains ys x → Contains (filter test ys) x) → Contains (cond b (y ∷ filter test ys) (filter test ys)) x
  kept x y ys true e is passes later = by (Contains-append_cases (y ∷ []) ys x is)
    where
      by : Contains (y ∷ []) x ⊎ Contains ys x → Contains (y ∷ filter test ys) x
      by (inl first) = Contains-append_left (y ∷ []) (filter test ys) x first
      by (inr rest) = Contains-append_right (y ∷ []) (filter test ys) x (later rest)
  kept x y ys false e is passes later = by (Contains-append_cases (y ∷ []) ys x is)
    where
      same : Contains [] x ⊎ (y ≡ x) → Contains (filter test ys) x
      same (inl none) = let n = none.1 in absurd (omega arith)
      same (inr one) = let other : test y ≡ test x = ap test one in absurd cc

      by : Contains (y ∷ []) x ⊎ Contains ys x → Contains (filter test ys) x
      by (inl first) = same (Contains-push_cases [] y x first)
      by (inr rest) = later rest

  passed : (x : X) (xs : List X) → test x ≡ true → Contains xs x → Contains (filter test xs) x
  passed x [] passes is = is
  passed x (y ∷ ys) passes is = kept x y ys (test y) refl is passes (passed x ys passes)

  pub filter_has : (xs : List X) (x : X) → Contains (filter test xs) x ↔ (Contains xs x × (test x ≡ true))
  filter_has xs x = (λ is. (All-contains (Contains xs) (filter test xs) x (All-filter test (Contains xs) xs (All-contains_itself xs)) is, All-contains (λ y. test y ≡ true) (filter test xs) x (filter_passes test xs) is), λ both. passed x xs both.1 both.0)

-- ---- what an insert adds

module _ {K : Type 0} {cmp : K → K → Ordering} (o : IsTotalOrder cmp) (exact : CmpEqualImpliesEq cmp) where
  pub found : {V : Type 0} (k : K) (es : List (K × V)) → IsSome (lookup (is_at (cmp k)) es) → Contains (keys_of es) k
  found k es = Contains-keys_from_lookup (tells_apart exact) k es

  pub looked_up : {V : Type 0} (k : K) (es : List (K × V)) → Contains (keys_of es) k → IsSome (lookup (is_at (cmp k)) es)
  looked_up k es = IsSome-lookup_from_Contains (eq_by_cmp_equiv o) k es

  module _ (key : K) (es : List (K × Unit)) where
    pub in_new : (k : K) → Contains (keys_of (insert_entry cmp es key tt)) k → Contains (keys_of es) k ⊎ (k ≡ key)
    in_new k is = by (is_at (cmp key) k) refl
      where
        by : (b : Bool) → is_at (cmp key) k ≡ b → Contains (keys_of es) k ⊎ (k ≡ key)
        by true same = inr (sym (tells_apart exact key k same))
        by false apart = inl (found k es (subst IsSome (lookup-insert_entry o k key tt es ∙ ap (λ b. cond b (Some tt) (lookup (is_at (cmp k)) es)) apart) (looked_up k (insert_entry cmp es key tt) is)))

    pub from_old : (k : K) → Contains (keys_of es) k ⊎ (k ≡ key) → Contains (keys_of (insert_entry cmp es key tt)) k
    from_old k (inl is) = found k (insert_entry cmp es key tt) (rw (lookup-insert_entry o k key tt es) (by (is_at (cmp key) k) (looked_up k es is)))
      where
        by : (b : Bool) → IsSome (lookup (is_at (cmp k)) es) → IsSome (cond b (Some tt) (lookup (is_at (cmp k)) es))
        by true some = refl
        by false some = some
    from_old k (inr one) = found k (insert_entry cmp es key tt) (rw (lookup-insert_entry o k key tt es, one, (eq_by_cmp_equiv o).refl key) refl)

pub named_once : (p q : Partition) → name_day p ≡ name_day q → p ≡ q
named_once p q same = together p q (ap (λ (k : NameDay). k.day) same) (ap (λ (k : NameDay). k.pname) same)

-- ---- what is wanted of rising partitions

pub filter_exactly : (test : Partition → Bool) (parts noted : List Partition) → ((p : Partition) → Contains parts p ↔ Contains noted p) →
    (p : Partition) → Contains (filter test parts) p ↔ (Contains noted p × (test p ≡ true))
filter_exactly test parts noted same p = (λ is. (let both = (filter_has test parts p).0 is in ((same p).0 both.0, both.1)), λ both. (filter_has test parts p).1 ((same p).1 both.0, both.1))

pub filter_rises : {V : Type 0} (test : Partition → Bool) (es : List (Partition × V)) → IsRising partition_cmp es → AreRising (filter test (keys_of es))
filter_rises test es up = IsStrictlySortedBy-filter partition_cmp test (keys_of es) (sorted_from_rising partition_cmp es up)

pub none_rise : AreRising []
none_rise = sorted_from_rising {V = Unit} partition_cmp [] tt

-- ---- what is wanted of name days, put in the order of partitions

module _ (parts : List Partition) where
  pub named_in : (p : Partition) → Contains parts p → Contains (map name_day parts) (name_day p)
  named_in p (k, h, e) = (k, rw (length-map parts name_day) h, get_or-map name_day parts k p ∙ ap name_day e)

  pub unnamed_in : (p : Partition) → Contains (map name_day parts) (name_day p) → Contains parts p
  unnamed_in p (k, h, e) = (k, rw (length-map parts name_day) at h, named_once (slice_index_or parts k p) p (sym (get_or-map name_day parts k p) ∙ e))

same_named : (p q : Partition) → eq_by_cmp name_day_cmp (name_day p) (name_day q) ≡ false → eq_by_cmp partition_cmp p q ≡ false
same_named p q apart = false_from_ne_true (eq_by_cmp partition_cmp p q) (λ same. (let one = tells_apart exact_partitions p q same in let itself = (eq_by_cmp_equiv named_cmp_total).refl (name_day q) in let no : eq_by_cmp name_day_cmp (name_day q) (name_day q) ≡ false = rw one at apart in cc))

apart_from_all : (p : Partition) (parts : List Partition) → AllByRecursion (λ y. eq_by_cmp name_day_cmp (name_day p) y ≡ false) (map name_day parts) → AllByRecursion (λ y. eq_by_cmp partition_cmp p y ≡ false) parts
apart_from_all p [] all = tt
apart_from_all p (q ∷ parts) all = (same_named p q all.0, apart_from_all p parts all.1)

distinct_parts : (parts : List Partition) → IsDistinct (eq_by_cmp name_day_cmp) (map name_day parts) → IsDistinct (eq_by_cmp partition_cmp) parts
unfolding IsDistinct
distinct_parts [] apart = tt
distinct_parts (p ∷ parts) apart = (apart_from_all p parts apart.0, distinct_parts parts apart.1)

-- partitions that are sorted and apart rise
rising_from_sorted : (parts : List Partition) → IsSorted partition_cmp parts → IsDistinct (eq_by_cmp partition_cmp) parts → AreRising parts
rising_from_sorted parts sorted apart = sorted_from_all_adjacent partition_cmp_total parts none (λ k h. less (slice_index_or parts k none) (slice_index_or parts (k + 1) none)
    (sorted_far (λ x y. is_lt (partition_cmp x y)) (ranks_by partition_cmp_total (λ x. x)) parts sorted k (k + 1) none (omega arith) h)
    (apart_from_distinct (eq_by_cmp partition_cmp) parts k (k + 1) none apart (omega arith) h))
  where
    none : Partition
    none = record { day = pos 0; pname = 0 }

    less : (p q : Partition) → is_lt (partition_cmp q p) ≡ false → eq_by_cmp partition_cmp p q ≡ false → partition_cmp p q ≡ Less
    less p q not_less not_same = by (partition_cmp p q) refl
      where
        by : (r : Ordering) → partition_cmp p q ≡ r → r ≡ Less
        by Less e = refl
        by Equal e = absurd (let no : is_eq (partition_cmp p q) ≡ false = not_same in cc)
        by Greater e = absurd (let under = flip_greater partition_cmp_total p q e in cc)

module _ (test : NameDay → Bool) (es : List (NameDay × Unit)) (parts sorted : List Partition) (named : map name_day parts ≡ filter test (keys_of es)) (same : IsPermutation parts sorted) where
  pub sorted_exactly : (noted : List Partition) → ((p : Partition) → Contains (keys_of es) (name_day p) ↔ Contains noted p) → (p : Partition) → Contains sorted p ↔ (Contains noted p × (test (name_day p) ≡ true))
  sorted_exactly noted names p = (to, from)
    where
      to : Contains sorted p → Contains noted p × (test (name_day p) ≡ true)
      to is = let both = (filter_has test (keys_of es) (name_day p)).0 (rw named at (named_in parts p (Contains-permutation sorted parts p (IsPermutation-sym parts sorted same) is))) in ((names p).0 both.0, both.1)

      from : Contains noted p × (test (name_day p) ≡ true) → Contains sorted p
      from both = Contains-permutation parts sorted p same (unnamed_in parts p (rw named ((filter_has test (keys_of es) (name_day p)).1 ((names p).1 both.0, both.1))))

  pub sorted_rises : IsRising name_day_cmp es → IsSorted partition_cmp sorted → AreRising sorted
  sorted_rises rising up =
      let rises = IsStrictlySortedBy-filter name_day_cmp test (keys_of es) (sorted_from_rising name_day_cmp es rising) in
      let apart = distinct_parts parts (rw named (IsDistinct-from_sorted name_day_cmp (filter test (keys_of es)) rises)) in
      rising_from_sorted sorted up (IsDistinct-IsPermutation (eq_by_cmp partition_cmp) (eq_by_cmp_equiv partition_cmp_total).symm parts sorted same apart)

-- ---- the rest of what calls need

-- what is given exactly by one fact is so by an equal one
pub exactly_by : {T P : Partition → Type 0} (given held : List Partition) → ((p : Partition) → T p ↔ P p) → ((p : Partition) → Contains given p ↔ (Contains held p × T p)) →
    (p : Partition) → Contains given p ↔ (Contains held p × P p)
exactly_by given held means is p = (λ at. (let both = (is p).0 at in (both.0, (means p).0 both.1)), λ both. (is p).1 (both.0, (means p).1 both.1))
