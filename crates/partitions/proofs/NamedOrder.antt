-- The order of name days, in words of numbers and days.
use Rattle.std.proofs.Common.{◌≡◌, ℕ, ℤ, Bool, true, false, ◌&&◌, nat_eq, ◌<ℤ◌, ◌<◌, ◌⊎◌, refl, ◌∙◌, ap, arith}
use Rattle.std.specs.Ordering.{int_eq, MatchOrdering}
use Rattle.std.specs.Cmp.{IsTotalOrder, then_total, on_total, int_cmp_total, nat_cmp_total, int_ranks, ranks, signed_Decides, nat_eq_equiv}
use Rattle.std.specs.declared.cmp.Ordering.{Ordering}
use Rattle.std.specs.declared.cmp.Ordering.TheVariants.{Less, Equal, Greater}
use Rattle.std.proofs.lemmas.Bool.Decides.{nat_tests}
use Rattle.std.proofs.lemmas.Cmp.{int_eq_equiv}
use Rattle.std.proofs.lemmas.Map.Lookups.{CmpEqualImpliesEq}
use Rattle.block_map.proofs.Pairs.{pair_ranks}
use Rattle.partitions.specs.declared.name_day.NameDay.{NameDay}
use Rattle.partitions.specs.NameDay.{name_day_cmp}

-- a name day comes before another
abbrev pub ComesBefore : NameDay → NameDay → Type 0
ComesBefore a b = (a.pname < b.pname) ⊎ ((a.pname ≡ b.pname) × (a.day <ℤ b.day))

pub named_cmp_total : IsTotalOrder name_day_cmp
named_cmp_total = then_total (on_total (λ (k : NameDay). k.pname) nat_cmp_total) (on_total (λ (k : NameDay). k.day) int_cmp_total)

module _ (a b : NameDay) where
  pub named_ranked_as : (r : Ordering) → name_day_cmp a b ≡ r → MatchOrdering r (ComesBefore a b) ((a.pname ≡ b.pname) × (a.day ≡ b.day)) (ComesBefore b a)
  named_ranked_as = pair_ranks (λ (x y : ℕ). x < y) (λ (x y : ℤ). x <ℤ y) a.pname a.day b.pname b.day _ _ (ranks a.pname b.pname) (int_ranks a.day b.day)

-- name days of one number and one day are the same
together : (x y : NameDay) → x.pname ≡ y.pname → x.day ≡ y.day → x ≡ y
together x y names days = ap (λ (n : ℕ). let q : NameDay = record { pname = n; day = x.day } in q) names ∙ ap (λ (d : ℤ). let q : NameDay = record { pname = y.pname; day = d } in q) days

-- name days that compare equal are the same
pub exact_named : CmpEqualImpliesEq name_day_cmp
exact_named a b same = let e = named_ranked_as a b Equal same in together a b e.0 e.1

module _ (a b : NameDay) where
  -- what `==` of name days tells
  pub same_named_by_test : true ≡ (nat_eq a.pname b.pname && int_eq a.day b.day) → a ≡ b
  same_named_by_test test = by (nat_eq a.pname b.pname) (int_eq a.day b.day) refl refl test
    where
      by : (x y : Bool) → nat_eq a.pname b.pname ≡ x → int_eq a.day b.day ≡ y → true ≡ (x && y) → a ≡ b
      by true true names days test = together a b (grind (arith, nat_tests)) ((signed_Decides a.day b.day).0 days)
      by true false names days test = cc
      by false y names days test = cc

  -- one that is no later, and not the same, comes before
  pub less_named_by_test : (name_day_cmp a b ≡ Greater → ⊥) → false ≡ (nat_eq b.pname a.pname && int_eq b.day a.day) → name_day_cmp a b ≡ Less
  less_named_by_test up test = by (name_day_cmp a b) refl
    where
      by : (r : Ordering) → name_day_cmp a b ≡ r → r ≡ Less
      by Less e = refl
      by Equal e = absurd (let same = named_ranked_as a b Equal e in
          let numbers : nat_eq b.pname a.pname ≡ true = rw same.0 (nat_eq_equiv.refl b.pname) in
          let days : int_eq b.day a.day ≡ true = rw same.1 (int_eq_equiv.refl b.day) in
          let both : (nat_eq b.pname a.pname && int_eq b.day a.day) ≡ true = rw (numbers, days) refl in cc)
      by Greater e = absurd (up e)
