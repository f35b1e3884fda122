-- The order of partitions, in words of days and numbers.
use Rattle.std.proofs.Common.{◌≡◌, ℕ, ℤ, ◌<ℤ◌, ◌<◌, ◌≤◌, ◌⊎◌, inl, inr, refl, ◌∙◌, ap, arith}
use Rattle.std.specs.Ordering.{MatchOrdering}
use Rattle.std.specs.Cmp.{IsTotalOrder, then_total, on_total, int_cmp_total, nat_cmp_total, int_ranks, ranks}
use Rattle.std.specs.declared.cmp.Ordering.{Ordering}
use Rattle.std.specs.declared.cmp.Ordering.TheVariants.{Less, Equal, Greater}
use Rattle.std.proofs.lemmas.Map.Lookups.{CmpEqualImpliesEq}
use Rattle.block_map.proofs.Pairs.{pair_ranks}
use Rattle.partitions.specs.declared.partition.Partition.{Partition}
use Rattle.partitions.specs.Partition.{partition_cmp}

-- a partition comes before another
abbrev pub IsBefore : Partition → Partition → Type 0
IsBefore a b = (a.day <ℤ b.day) ⊎ ((a.day ≡ b.day) × (a.pname < b.pname))

-- it is no later
abbrev pub IsNoLater : Partition → Partition → Type 0
IsNoLater a b = (a.day <ℤ b.day) ⊎ ((a.day ≡ b.day) × (a.pname ≤ b.pname))

pub partition_cmp_total : IsTotalOrder partition_cmp
partition_cmp_total = then_total (on_total (λ (p : Partition). p.day) int_cmp_total) (on_total (λ (p : Partition). p.pname) nat_cmp_total)

module _ (a b : Partition) where
  pub ranked_as : (r : Ordering) → partition_cmp a b ≡ r → MatchOrdering r (IsBefore a b) ((a.day ≡ b.day) × (a.pname ≡ b.pname)) (IsBefore b a)
  ranked_as = pair_ranks (λ (x y : ℤ). x <ℤ y) (λ (x y : ℕ). x < y) a.day a.pname b.day b.pname _ _ (int_ranks a.day b.day) (ranks a.pname b.pname)

  pub before_from_less : partition_cmp a b ≡ Less → IsBefore a b
  before_from_less less = ranked_as Less less

  no_later_by : (r : Ordering) → partition_cmp a b ≡ r → (r ≡ Greater → ⊥) → IsNoLater a b
  no_later_by Less e not = widened (ranked_as Less e)
    where
      widened : IsBefore a b → IsNoLater a b
      widened (inl days) = inl days
      widened (inr same) = inr (same.0, omega (arith, same.1))
  no_later_by Equal e not = let same = ranked_as Equal e in inr (same.0, omega (arith, same.1))
  no_later_by Greater e not = absurd (not refl)

  pub no_later : (partition_cmp a b ≡ Greater → ⊥) → IsNoLater a b
  no_later not = no_later_by (partition_cmp a b) refl not

-- partitions of one day and one number are the same
pub together : (x y : Partition) → x.day ≡ y.day → x.pname ≡ y.pname → x ≡ y
together x y days numbers = ap (λ (d : ℤ). let q : Partition = record { day = d; pname = x.pname } in q) days ∙ ap (λ (n : ℕ). let q : Partition = record { day = y.day; pname = n } in q) numbers

-- partitions that compare equal are the same
pub exact_partitions : CmpEqualImpliesEq partition_cmp
exact_partitions a b same = let e = ranked_as a b Equal same in together a b e.0 e.1
