-- Numbers of rows in partitions.
use Rattle.std.proofs.Common.{◌≡◌, ◌↔◌, ℕ, suc, zero, ◌+◌, ◌<◌, List, [], ◌∷◌, ◌++◌, length, Bool, true, false, cond, Option, Some, None, refl, sym, ◌∙◌, ap, subst, arith, length-append}
use Rattle.std.specs.Prelude.{Contains, IsSome, IfSome, filter, replicate}
use Rattle.std.specs.List.{All}
use Rattle.std.specs.Map.{lookup, keys_of, values_of}
use Rattle.std.specs.BTreeMap.{is_at, insert_entry}
use Rattle.std.specs.Cmp.{eq_by_cmp_equiv}
use Rattle.std.specs.Ordering.{is_eq}
use Rattle.std.proofs.lemmas.List.Elements.{Contains-append_left, Contains-push, filter-append}
use Rattle.std.proofs.lemmas.Map.Views.{All-values-insert_entry, IfSome-lookup_from_All, tells_apart}
use Rattle.block_map.specs.Index.{tally}
use Rattle.block_map.specs.Rising.{IsRising}
use Rattle.block_map.proofs.KeyedLists.{lookup-insert_entry}
use Rattle.partitions.specs.declared.partition.Partition.{Partition}
use Rattle.partitions.specs.Partition.{partition_cmp}
use Rattle.partitions.specs.Counts.{HoldRows, rows_counted, times_in}
use Rattle.partitions.proofs.Order.{partition_cmp_total, exact_partitions}
use Rattle.partitions.proofs.Members.{filter_has, found, looked_up}

-- ---- how often a partition is among those of rows

module _ (p : Partition) where
  abbrev is_it : Partition → Bool
  is_it other = is_eq (partition_cmp other p)

  times-append : (xs ys : List Partition) → times_in p (xs ++ ys) ≡ times_in p xs + times_in p ys
  times-append xs ys = ap length (filter-append is_it xs ys) ∙ length-append (filter is_it xs) (filter is_it ys)

  each_time : (q : Partition) → is_it q ≡ true → (n : ℕ) → times_in p (replicate n q) ≡ n
  each_time q is zero = refl
  each_time q is (suc n) = rw is (ap suc (each_time q is n))

  no_time : (q : Partition) → is_it q ≡ false → (n : ℕ) → times_in p (replicate n q) ≡ 0
  no_time q other zero = refl
  no_time q other (suc n) = rw other (no_time q other n)

  itself : is_it p ≡ true
  itself = (eq_by_cmp_equiv partition_cmp_total).refl p

  some_of : (xs : List Partition) → Contains xs p → 0 < length xs
  some_of xs at = let within = at.1 in omega (arith, within)

  there : (noted : List Partition) → Contains noted p → 0 < times_in p noted
  there noted at = some_of (filter is_it noted) ((filter_has is_it noted p).1 (at, itself))

  first_of : (xs noted : List Partition) → xs ≡ filter is_it noted → 0 < length xs → Contains noted p
  first_of [] noted same some = absurd (omega (arith, some))
  first_of (x ∷ xs) noted same some =
      let in_filter : Contains (filter is_it noted) x = subst (λ (l : List Partition). Contains l x) same (Contains-append_left (x ∷ []) xs x (Contains-push [] x)) in
      let both = (filter_has is_it noted x).0 in_filter in
      let one : x ≡ p = tells_apart exact_partitions x p both.1 in
      subst (Contains noted) one both.0

  back : (noted : List Partition) → 0 < times_in p noted → Contains noted p
  back noted some = first_of (filter is_it noted) noted refl some

-- ---- more rows of a partition

pub counted_more : (es : List (Partition × ℕ)) (p : Partition) (n v : ℕ) → v ≡ rows_counted es p + n → (noted : List Partition) → ((q : Partition) → rows_counted es q ≡ times_in q noted)
    → (q : Partition) → rows_counted (insert_entry partition_cmp es p v) q ≡ times_in q (noted ++ replicate n p)
counted_more es p n v is noted are q = ap tally (lookup-insert_entry partition_cmp_total q p v es) ∙ by (is_at (partition_cmp p) q) refl
  where
    by : (b : Bool) → is_at (partition_cmp p) q ≡ b → tally (cond b (Some v) (lookup (is_at (partition_cmp q)) es)) ≡ times_in q (noted ++ replicate n p)
    by true e =
        let same : p ≡ q = tells_apart exact_partitions p q e in
        let known : rows_counted es p ≡ rows_counted es q = ap (rows_counted es) same in
        omega (arith, is, known, are q, times-append q noted (replicate n p), each_time q p e n)
    by false e = omega (arith, are q, times-append q noted (replicate n p), no_time q p e n)

-- they stand there still, each with a row
pub hold_more : (es new : List (Partition × ℕ)) (p : Partition) (v : ℕ) → 0 < v → HoldRows es → new ≡ insert_entry partition_cmp es p v → IsRising partition_cmp new → HoldRows new
hold_more es new p v some hold is rising = record {
  rising = rising;
  each = subst (λ (l : List (Partition × ℕ)). All (λ count. 0 < count) (values_of l)) (sym is) (All-values-insert_entry partition_cmp p v (λ count. 0 < count) es hold.each some);
}

-- ---- which partitions hold a row

counted_some : (o : Option ℕ) → IsSome o → IfSome o (λ count. 0 < count) → 0 < tally o
counted_some None some each = absurd cc
counted_some (Some count) some each = each

some_counted : (o : Option ℕ) → 0 < tally o → IsSome o
some_counted None some = absurd (omega (arith, some))
some_counted (Some count) some = refl

-- those that are counted, and no others
pub counted_keys : (es : List (Partition × ℕ)) (noted : List Partition) → HoldRows es → ((q : Partition) → rows_counted es q ≡ times_in q noted) → (p : Partition) → Contains (keys_of es) p ↔ Contains noted p
counted_keys es noted hold are p = (
  λ is. back p noted (subst (λ (n : ℕ). 0 < n) (are p) (counted_some (lookup (is_at (partition_cmp p)) es) (looked_up partition_cmp_total exact_partitions p es is) (IfSome-lookup_from_All (λ count. 0 < count) (is_at (partition_cmp p)) es hold.each))),
  λ is. found partition_cmp_total exact_partitions p es (some_counted (lookup (is_at (partition_cmp p)) es) (subst (λ (n : ℕ). 0 < n) (sym (are p)) (there p noted is))),
)
