-- The order of named times.
use Rattle.std.proofs.Common.{◌≡◌, ℕ, ℤ, ◌<ℤ◌, ◌<◌, ◌⊎◌, ◌∙◌, ap}
use Rattle.std.specs.Ordering.{MatchOrdering}
use Rattle.std.specs.Cmp.{IsTotalOrder, then_total, on_total, int_cmp_total, nat_cmp_total, int_ranks, ranks}
use Rattle.std.specs.declared.cmp.Ordering.{Ordering}
use Rattle.std.specs.declared.cmp.Ordering.TheVariants.{Equal}
use Rattle.block_map.proofs.Pairs.{pair_ranks}
use Rattle.histogram.specs.declared.histogram.NamedTime.{NamedTime}
use Rattle.histogram.specs.Times.{named_time_cmp}

pub named_cmp_total : IsTotalOrder named_time_cmp
named_cmp_total = then_total (on_total (λ (n : NamedTime). n.pname) nat_cmp_total) (on_total (λ (n : NamedTime). n.time) int_cmp_total)

-- a named time comes before another
abbrev pub IsBefore : NamedTime → NamedTime → Type 0
IsBefore a b = (a.pname < b.pname) ⊎ ((a.pname ≡ b.pname) × (a.time <ℤ b.time))

module _ (a b : NamedTime) where
  -- what an answer of the order says
  pub ranked_as : (r : Ordering) → named_time_cmp a b ≡ r → MatchOrdering r (IsBefore a b) ((a.pname ≡ b.pname) × (a.time ≡ b.time)) (IsBefore b a)
  ranked_as = pair_ranks (λ (x y : ℕ). x < y) (λ (x y : ℤ). x <ℤ y) a.pname a.time b.pname b.time _ _ (ranks a.pname b.pname) (int_ranks a.time b.time)

  -- named times that compare equal are the same
  pub same_from_equal : named_time_cmp a b ≡ Equal → a ≡ b
  same_from_equal e =
      let same = ranked_as Equal e in
      ap (λ (n : ℕ). let x : NamedTime = record { pname = n; time = a.time } in x) same.0 ∙ ap (λ (t : ℤ). let x : NamedTime = record { pname = b.pname; time = t } in x) same.1
