-- Rows of which no two have one key stand in the order of their keys in one way only.
use Rattle.std.proofs.Common.{◌≡◌, ◌⊎◌, inl, inr, ℕ, zero, suc, pos, ◌+◌, ◌<◌, List, [], ◌∷◌, ◌++◌, length, map, Bool, true, false, cond, sym, ◌∙◌, ap, subst, refl, arith}
use Rattle.std.specs.Prelude.{◌||◌, filter, nat_lt, slice_index_or, Contains, IsPermutation, IsSortedByKey}
use Rattle.std.specs.List.{list_any, AllByRecursion, IsDistinct}
use Rattle.std.specs.List.Sorted.{IsStrictlySortedBy}
use Rattle.std.specs.Cmp.{eq_by_cmp_equiv}
use Rattle.std.specs.Ordering.{eq_by_cmp, is_lt, is_eq}
use Rattle.std.specs.declared.cmp.Ordering.{Ordering}
use Rattle.std.specs.declared.cmp.Ordering.TheVariants.{Less, Equal, Greater}
use Rattle.std.proofs.lemmas.List.{length-map}
use Rattle.std.proofs.Math.ListN.{get_or-map}
use Rattle.std.proofs.lemmas.List.Sorted.{Contains-permutation, IsPermutation-sym, IsPermutation-map}
use Rattle.std.proofs.lemmas.Map.Keys.{IsDistinct-IsPermutation, apart_from_distinct, sorted_from_all_adjacent}
use Rattle.arch_types.specs.declared.row.Row.{Row}
use Rattle.arch_types.specs.declared.key.Key.{Key}
use Rattle.arch_types.specs.History.{has_key}
use Rattle.arch_types.specs.Order.{key_cmp, is_before, order_by}
use Rattle.arch_types.proofs.InOrder.{order_same, order_sorted}
use Rattle.arch_types.proofs.Ranks.{key_cmp_total}
use Rattle.block_map.proofs.Rising.{flip_less, flip_greater}
use Rattle.partitions.specs.declared.partition.Partition.{Partition}
use Rattle.partitions.specs.Rows.{is_of_partition}
use Rattle.yarch_table.specs.declared.table.Stored.{Stored}
use Rattle.yarch_table.specs.Stored.{rows_of, rows_below, seen_at}
use Rattle.archive_history.specs.PartitionedTable.{HaveOwnKeys}

-- each key is below those of the rows after it
abbrev AreRisingRows : List Row → Type 0
AreRisingRows [] = Unit {0}
AreRisingRows (r ∷ rows) = AllByRecursion (λ later. key_cmp r.key later.key ≡ Less) rows × AreRisingRows rows

-- ---- members

in_cases : {X : Type 0} (y : X) (ys : List X) (x : X) → Contains (y ∷ ys) x → (y ≡ x) ⊎ Contains ys x
in_cases y ys x (zero, lt, e) = inl e
in_cases y ys x (suc k, lt, e) = inr (k, omega (arith, lt), e)

in_later : {X : Type 0} (y : X) (ys : List X) (x : X) → Contains ys x → Contains (y ∷ ys) x
in_later y ys x (k, lt, e) = (suc k, omega (arith, lt), e)

in_first : {X : Type 0} (y : X) (ys : List X) → Contains (y ∷ ys) y
in_first y ys = (0, omega arith, refl)

all_in : {X : Type 0} (P : X → Type 0) (xs : List X) (x : X) → AllByRecursion P xs → Contains xs x → P x
all_in P [] x all is = let lt = is.1 in absurd (omega (arith, lt))
all_in P (y ∷ ys) x all is = by (in_cases y ys x is) (all_in P ys x all.1)
  where
    by : (y ≡ x) ⊎ Contains ys x → (Contains ys x → P x) → P x
    by (inl e) later = subst P e all.0
    by (inr rest) later = later rest

-- ---- one order

below_itself : (k : Key) → key_cmp k k ≡ Less → ⊥
below_itself k less = let above = flip_less key_cmp_total k k less in cc

both_below : (a b : Key) → key_cmp a b ≡ Less → key_cmp b a ≡ Less → ⊥
both_below a b less more = let above = flip_less key_cmp_total a b less in cc

one_order : (xs ys : List Row) → AreRisingRows xs → AreRisingRows ys → ((r : Row) → Contains xs r → Contains ys r) → ((r : Row) → Contains ys r → Contains xs r) → xs ≡ ys
one_order [] [] up rise to from = refl
one_order [] (y ∷ ys) up rise to from = let lt = (from y (in_first y ys)).1 in absurd (omega (arith, lt))
one_order (x ∷ xs) [] up rise to from = let lt = (to x (in_first x xs)).1 in absurd (omega (arith, lt))
one_order (x ∷ xs) (y ∷ ys) up rise to from = ap (λ (r : Row). r ∷ xs) same ∙ ap (λ (l : List Row). y ∷ l) (one_order xs ys up.1 rise.1 to_later from_later)
  where
    first : (y ≡ x) ⊎ Contains ys x → (x ≡ y) ⊎ Contains xs y → x ≡ y
    first (inl e) there = sym e
    first (inr behind) (inl e) = e
    first (inr behind) (inr later) = absurd (both_below x.key y.key (all_in (λ (z : Row). key_cmp x.key z.key ≡ Less) xs y up.0 later) (all_in (λ (z : Row). key_cmp y.key z.key ≡ Less) ys x rise.0 behind))

    same : x ≡ y
    same = first (in_cases y ys x (to x (in_first x xs))) (in_cases x xs y (from y (in_first y ys)))

    to_later : (r : Row) → Contains xs r → Contains ys r
    to_later r is = by (in_cases y ys r (to r (in_later x xs r is)))
      where
        by : (y ≡ r) ⊎ Contains ys r → Contains ys r
        by (inl e) = absurd (below_itself r.key (subst (λ (z : Row). key_cmp z.key r.key ≡ Less) (same ∙ e) (all_in (λ (z : Row). key_cmp x.key z.key ≡ Less) xs r up.0 is)))
        by (inr later) = later

    from_later : (r : Row) → Contains ys r → Contains xs r
    from_later r is = by (in_cases x xs r (from r (in_later y ys r is)))
      where
        by : (x ≡ r) ⊎ Contains xs r → Contains xs r
        by (inl e) = absurd (below_itself r.key (subst (λ (z : Row). key_cmp z.key r.key ≡ Less) (sym same ∙ e) (all_in (λ (z : Row). key_cmp y.key z.key ≡ Less) ys r rise.0 is)))
        by (inr later) = later

-- ---- sorted rows with keys of their own rise

rising_keys : (rows : List Row) → IsStrictlySortedBy key_cmp (map (λ row. row.key) rows) → AreRisingRows rows
unfolding IsStrictlySortedBy
rising_keys [] up = tt
rising_keys (r ∷ rows) up = (below rows up.0, rising_keys rows up.1)
  where
    below : (later : List Row) → AllByRecursion (λ k. key_cmp r.key k ≡ Less) (map (λ row. row.key) later) → AllByRecursion (λ row. key_cmp r.key row.key ≡ Less) later
    below [] all = tt
    below (l ∷ later) all = (all.0, below later all.1)

rising_rows : (rows : List Row) → IsSortedByKey (λ row. row.key) key_cmp rows → HaveOwnKeys rows → AreRisingRows rows
rising_rows rows sorted own = rising_keys rows (sorted_from_all_adjacent key_cmp_total keys none.key (λ k h. less k (rw (length-map rows (λ (row : Row). row.key)) at h) (apart_from_distinct (eq_by_cmp key_cmp) keys k (k + 1) none.key own (omega arith) h)))
  where
    keys : List Key
    keys = map (λ row. row.key) rows

    none : Row
    none = record { key = record { time = pos 0; seq = 0 }; rectime = pos 0; packet = []; link = 0; pname = 0; table = 0 }

    at_key : (k : ℕ) → slice_index_or keys k none.key ≡ (slice_index_or rows k none).key
    at_key k = get_or-map (λ (row : Row). row.key) rows k none

    less_of : (a b : Key) → is_lt (key_cmp b a) ≡ false → eq_by_cmp key_cmp a b ≡ false → key_cmp a b ≡ Less
    less_of a b not_less not_same = by (key_cmp a b) refl
      where
        by : (r : Ordering) → key_cmp a b ≡ r → r ≡ Less
        by Less e = refl
        by Equal e = absurd (let no : is_eq (key_cmp a b) ≡ false = not_same in cc)
        by Greater e = absurd (let under = flip_greater key_cmp_total a b e in cc)

    less : (k : ℕ) → k + 1 < length rows → eq_by_cmp key_cmp (slice_index_or keys k none.key) (slice_index_or keys (k + 1) none.key) ≡ false → key_cmp (slice_index_or keys k none.key) (slice_index_or keys (k + 1) none.key) ≡ Less
    less k h apart =
        less_of (slice_index_or keys k none.key) (slice_index_or keys (k + 1) none.key)
        (ap (λ (b : Key). is_lt (key_cmp b (slice_index_or keys k none.key))) (at_key (k + 1)) ∙ ap (λ (a : Key). is_lt (key_cmp (slice_index_or rows (k + 1) none).key a)) (at_key k) ∙ sorted k none (omega arith) h)
        apart

-- rows sorted by their keys, where each has its own, are the rows put in order
pub only_order : (rows ordered : List Row) → HaveOwnKeys rows → IsPermutation rows ordered → IsSortedByKey (λ row. row.key) key_cmp ordered → ordered ≡ order_by is_before rows
only_order rows ordered own same sorted =
    one_order ordered (order_by is_before rows) (rising_rows ordered sorted (own_too ordered same)) (rising_rows (order_by is_before rows) (order_sorted rows) (own_too (order_by is_before rows) put))
    (λ r is. Contains-permutation rows (order_by is_before rows) r put (Contains-permutation ordered rows r (IsPermutation-sym rows ordered same) is))
    (λ r is. Contains-permutation rows ordered r same (Contains-permutation (order_by is_before rows) rows r (IsPermutation-sym rows (order_by is_before rows) put) is))
  where
    put : IsPermutation rows (order_by is_before rows)
    put = order_same is_before rows

    own_too : (others : List Row) → IsPermutation rows others → HaveOwnKeys others
    own_too others moved = IsDistinct-IsPermutation (eq_by_cmp key_cmp) (eq_by_cmp_equiv key_cmp_total).symm (map (λ row. row.key) rows) (map (λ row. row.key) others) (IsPermutation-map (λ row. row.key) rows others moved) own

-- ---- some of the rows

module _ {X : Type 0} (key : X → Key) (p : X → Bool) where
  kept_apart : (k : Key) (xs : List X) → AllByRecursion (λ y. eq_by_cmp key_cmp k y ≡ false) (map key xs) → AllByRecursion (λ y. eq_by_cmp key_cmp k y ≡ false) (map key (filter p xs))
  kept_apart k [] all = tt
  kept_apart k (x ∷ xs) all = by (p x) (kept_apart k xs all.1)
    where
      by : (b : Bool) → AllByRecursion (λ y. eq_by_cmp key_cmp k y ≡ false) (map key (filter p xs)) → AllByRecursion (λ y. eq_by_cmp key_cmp k y ≡ false) (map key (cond b (x ∷ filter p xs) (filter p xs)))
      by true rest = (all.0, rest)
      by false rest = rest

  pub distinct-filter : (xs : List X) → IsDistinct (eq_by_cmp key_cmp) (map key xs) → IsDistinct (eq_by_cmp key_cmp) (map key (filter p xs))
  unfolding IsDistinct
  distinct-filter [] own = tt
  distinct-filter (x ∷ xs) own = by (p x) (distinct-filter xs own.1)
    where
      by : (b : Bool) → IsDistinct (eq_by_cmp key_cmp) (map key (filter p xs)) → IsDistinct (eq_by_cmp key_cmp) (map key (cond b (x ∷ filter p xs) (filter p xs)))
      by true rest = (kept_apart (key x) xs own.0, rest)
      by false rest = rest

keys_of_stored : (stored : List Stored) → map (λ row. row.key) (rows_of stored) ≡ map (λ s. s.row.key) stored
keys_of_stored [] = refl
keys_of_stored (s ∷ stored) = ap (λ (l : List Key). s.row.key ∷ l) (keys_of_stored stored)

-- the rows below a front have keys of their own where all rows have
own-below : (front : ℕ) (stored : List Stored) → HaveOwnKeys (rows_of stored) → HaveOwnKeys (rows_below front stored)
own-below front stored own =
    subst (IsDistinct (eq_by_cmp key_cmp)) (sym (keys_of_stored (filter (λ s. nat_lt s.position front) stored)))
    (distinct-filter (λ (s : Stored). s.row.key) (λ s. nat_lt s.position front) stored (subst (IsDistinct (eq_by_cmp key_cmp)) (keys_of_stored stored) own))

-- so have those of a partition
pub own-partition : (partition : Partition) (front : ℕ) (stored : List Stored) → HaveOwnKeys (rows_of stored) → HaveOwnKeys (filter (is_of_partition partition) (rows_below front stored))
own-partition partition front stored own = distinct-filter (λ (row : Row). row.key) (is_of_partition partition) (rows_below front stored) (own-below front stored own)

-- and those put in order that pass two tests
pub own-seen : (p q : Row → Bool) (front : ℕ) (stored : List Stored) → HaveOwnKeys (rows_of stored) → HaveOwnKeys (filter p (filter q (seen_at front stored)))
own-seen p q front stored own =
    let rows = rows_below front stored in
    let seen : HaveOwnKeys (seen_at front stored) =
    IsDistinct-IsPermutation (eq_by_cmp key_cmp) (eq_by_cmp_equiv key_cmp_total).symm (map (λ row. row.key) rows) (map (λ row. row.key) (order_by is_before rows))
    (IsPermutation-map (λ row. row.key) rows (order_by is_before rows) (order_same is_before rows)) (own-below front stored own) in
    distinct-filter (λ (row : Row). row.key) p (filter q (seen_at front stored)) (distinct-filter (λ (row : Row). row.key) q (seen_at front stored) seen)

-- a row of a key that none of them has
pub own-push : (rows : List Row) (row : Row) → HaveOwnKeys rows → list_any (has_key row.key) rows ≡ false → HaveOwnKeys (rows ++ row ∷ [])
unfolding IsDistinct
own-push [] row own none = (tt, tt)
own-push (r ∷ rows) row own none = by (has_key row.key r) refl none (own-push rows row own.1)
  where
    behind : (later : List Row) → AllByRecursion (λ y. eq_by_cmp key_cmp r.key y ≡ false) (map (λ l. l.key) later) → eq_by_cmp key_cmp r.key row.key ≡ false → AllByRecursion (λ y. eq_by_cmp key_cmp r.key y ≡ false) (map (λ l. l.key) (later ++ row ∷ []))
    behind [] all apart = (apart, tt)
    behind (l ∷ later) all apart = (all.0, behind later all.1 apart)

    by : (b : Bool) → has_key row.key r ≡ b → (b || list_any (has_key row.key) rows) ≡ false → (list_any (has_key row.key) rows ≡ false → HaveOwnKeys (rows ++ row ∷ [])) → HaveOwnKeys (r ∷ rows ++ row ∷ [])
    by true is none later = cc
    by false is none later = (behind rows own.0 ((eq_by_cmp_equiv key_cmp_total).symm r.key row.key ∙ is), later none)
