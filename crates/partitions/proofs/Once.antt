-- Partitions in their order, each once.
use Rattle.std.proofs.Common.{◌≡◌, ◌⊎◌, inl, inr, ◌↔◌, ℕ, List, [], ◌++◌, Bool, true, false, cond, ◌<◌, refl, sym, ◌∙◌, subst, arith}
use Rattle.std.specs.Prelude.{Contains, ◌&&◌, ◌==◌, nat_lt}
use Rattle.std.specs.List.Sorted.{IsPermutation, IsSorted}
use Rattle.std.specs.List.Retain.{IsFiltered, DiffersFromLast}
use Rattle.std.specs.Ordering.{eq_by_cmp, int_eq, int_cmp, nat_cmp, is_eq, ordering_then}
use Rattle.std.specs.declared.cmp.Ordering.{Ordering}
use Rattle.std.specs.declared.cmp.Ordering.TheVariants.{Less, Equal, Greater}
use Rattle.std.specs.Cmp.{IsEquivalence, eq_by_cmp_equiv}
use Rattle.std.proofs.lemmas.Bool.Decides.{nat_tests}
use Rattle.std.proofs.lemmas.List.Elements.{Contains-append_cases, Contains-append_left, Contains-append_right}
use Rattle.std.proofs.lemmas.List.Filters.{dedup_is}
use Rattle.std.proofs.lemmas.List.Kept.{IsStrictlySortedBy-dedup, Contains-dedup, Contains-from_dedup}
use Rattle.std.proofs.lemmas.List.Sorted.{Contains-permutation, IsPermutation-sym}
use Rattle.partitions.specs.declared.partition.Partition.{Partition}
use Rattle.partitions.specs.Partition.{partition_cmp}
use Rattle.partitions.specs.Partitions.{AreRising}
use Rattle.partitions.proofs.Order.{partition_cmp_total, exact_partitions}
use Rattle.partitions.proofs.Parted.{equal_by}

numbers_alike : (m n : ℕ) (b c : Bool) → nat_lt m n ≡ b → (m == n) ≡ c → c ≡ is_eq (cond b Less (cond c Equal Greater))
numbers_alike m n true true less same = let lt : m < n = grind (arith, nat_tests) in let eq : m ≡ n = grind (arith, nat_tests) in absurd (omega arith)
numbers_alike m n true false less same = refl
numbers_alike m n false true less same = refl
numbers_alike m n false false less same = refl

days_alike : (r : Ordering) (m n : ℕ) → (is_eq r && (m == n)) ≡ is_eq (ordering_then r (nat_cmp m n))
days_alike Less m n = refl
days_alike Equal m n = numbers_alike m n (nat_lt m n) (m == n) refl refl
days_alike Greater m n = refl

-- whether two partitions are the same, as code asks it
abbrev pub are_same : Partition → Partition → Bool
are_same a b = int_eq a.day b.day && (a.pname == b.pname)

pub same_by_order : (a b : Partition) → are_same a b ≡ eq_by_cmp partition_cmp a b
same_by_order a b = days_alike (int_cmp a.day b.day) a.pname b.pname

module _ (E : Partition → Partition → Bool) (tests : (a b : Partition) → E a b ≡ eq_by_cmp partition_cmp a b) (given sorted left : List Partition) (same : IsPermutation given sorted) (in_order : IsSorted partition_cmp sorted)
    (once : IsFiltered (DiffersFromLast E) [] sorted left) where
  pub once_rising : AreRising left
  once_rising = subst AreRising (sym (dedup_is E sorted left once)) (IsStrictlySortedBy-dedup partition_cmp_total tests sorted in_order)

  equal : (a b : Partition) → E a b ≡ true → a ≡ b
  equal a b e = exact_partitions a b (equal_by _ (sym (tests a b) ∙ e))

  alike : IsEquivalence E
  alike = record {
    refl = λ a. tests a a ∙ (eq_by_cmp_equiv partition_cmp_total).refl a;
    symm = λ a b. tests a b ∙ (eq_by_cmp_equiv partition_cmp_total).symm a b ∙ sym (tests b a);
    congr = λ a b d e. tests a d ∙ (eq_by_cmp_equiv partition_cmp_total).congr a b d (sym (tests a b) ∙ e) ∙ sym (tests b d);
  }

  pub once_same : (partition : Partition) → Contains left partition ↔ Contains given partition
  once_same partition = (to, from)
    where
      to : Contains left partition → Contains given partition
      to is = Contains-permutation sorted given partition (IsPermutation-sym given sorted same) (Contains-from_dedup E sorted partition (subst (λ (l : List Partition). Contains l partition) (dedup_is E sorted left once) is))

      from : Contains given partition → Contains left partition
      from is = subst (λ (l : List Partition). Contains l partition) (sym (dedup_is E sorted left once)) (Contains-dedup alike equal sorted partition (Contains-permutation given sorted partition same is))

pub in_either : (first second : List Partition) (partition : Partition) → Contains (first ++ second) partition ↔ (Contains first partition ⊎ Contains second partition)
in_either first second partition = (λ has. Contains-append_cases first second partition has, back)
  where
    back : Contains first partition ⊎ Contains second partition → Contains (first ++ second) partition
    back (inl here) = Contains-append_left first second partition here
    back (inr there) = Contains-append_right first second partition there
