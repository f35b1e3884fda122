-- Which days and name days are wanted.
use Rattle.std.proofs.Common.{◌≡◌, ℤ, ◌≤ℤ◌, ◌<ℤ◌, inl, inr, Bool, true, false, not, ◌&&◌, refl, arith}
use Rattle.std.specs.Prelude.{int_lt, nat_eq}
use Rattle.std.specs.List.{list_any}
use Rattle.std.specs.declared.cmp.Ordering.TheVariants.{Less, Greater}
use Rattle.std.proofs.lemmas.Bool.{false_from_ne_true}
use Rattle.std.proofs.lemmas.Int.{ints}
use Rattle.partitions.specs.declared.partition.Partition.{Partition}
use Rattle.partitions.specs.declared.name_day.NameDay.{NameDay}
use Rattle.partitions.specs.declared.days.Days.{Days}
use Rattle.partitions.specs.declared.name_day_filter.NameDayFilter.{NameDayFilter}
use Rattle.partitions.specs.Partition.{partition_cmp}
use Rattle.partitions.specs.NameDayFilter.{is_on, is_on_days, passes_filter}
use Rattle.partitions.proofs.Order.{IsNoLater, IsBefore, no_later, before_from_less}

-- what is true of a day that is one of those in a row
pub record IsOn (days : Days) (day : ℤ) : Type 0 where
  pub first : days.first ≤ℤ day
  pub last : day ≤ℤ days.last

pub on_is : (days : Days) (day : ℤ) → is_on days day ≡ true → IsOn days day
on_is days day h = by (int_lt day days.first) (int_lt days.last day) refl refl h
  where
    by : (b c : Bool) → int_lt day days.first ≡ b → int_lt days.last day ≡ c → (not b && not c) ≡ true → IsOn days day
    by true c first last h = cc
    by false true first last h = cc
    by false false first last h = record { first = grind (arith, ints); last = grind (arith, ints) }

pub on_from : (days : Days) (day : ℤ) → IsOn days day → is_on days day ≡ true
on_from days day is = let first = is.first in let last = is.last in
    let low : int_lt day days.first ≡ false = grind (arith, ints) in
    let high : int_lt days.last day ≡ false = grind (arith, ints) in rw (low, high)

module _ (days : Days) where
  -- no partition before the first day's first is on one of the days
  pub none_below : (p : Partition) → partition_cmp p (record { day = days.first; pname = 0 }) ≡ Less → is_on_days days p ≡ false
  none_below p less = false_from_ne_true (is_on days p.day) (λ yes. by (before_from_less p (record { day = days.first; pname = 0 }) less) (on_is days p.day yes))
    where
      by : IsBefore p (record { day = days.first; pname = 0 }) → IsOn days p.day → ⊥
      by (inl x) is = omega (arith, ints, x, is.first)
      by (inr x) is = omega (arith, x.1)

  -- one that isn't, and not past the last day either, is
  pub on_one : (p : Partition) → (partition_cmp (record { day = days.first; pname = 0 }) p ≡ Greater → ⊥) → int_lt days.last p.day ≡ false → is_on_days days p ≡ true
  on_one p up last = by (no_later (record { day = days.first; pname = 0 }) p up)
    where
      by : IsNoLater (record { day = days.first; pname = 0 }) p → is_on_days days p ≡ true
      by (inl x) = on_from days p.day (record { first = omega (arith, ints, x); last = grind (arith, ints) })
      by (inr x) = on_from days p.day (record { first = omega (arith, ints, x.0); last = grind (arith, ints) })

  -- nor is one from a partition past the last day on
  pub none_past : (partition : Partition) → days.last <ℤ partition.day → (p : Partition) → (partition_cmp partition p ≡ Greater → ⊥) → is_on_days days p ≡ false
  none_past partition past p up = false_from_ne_true (is_on days p.day) (λ yes. by (no_later partition p up) (on_is days p.day yes))
    where
      by : IsNoLater partition p → IsOn days p.day → ⊥
      by (inl x) is = omega (arith, ints, x, past, is.last)
      by (inr x) is = omega (arith, ints, x.0, past, is.last)

-- what is true of a name day that is wanted
pub record IsWanted (name_day_filter : NameDayFilter) (at : NameDay) : Type 0 where
  pub first : name_day_filter.days.first ≤ℤ at.day
  pub last : at.day ≤ℤ name_day_filter.days.last
  pub name : list_any (nat_eq at.pname) name_day_filter.names ≡ true

pub passes_filter_is : (w : NameDayFilter) (k : NameDay) → passes_filter w k ≡ true → IsWanted w k
passes_filter_is w k h = by (is_on w.days k.day) (list_any (nat_eq k.pname) w.names) refl refl h
  where
    by : (b c : Bool) → is_on w.days k.day ≡ b → list_any (nat_eq k.pname) w.names ≡ c → (b && c) ≡ true → IsWanted w k
    by true true on name h = let is = on_is w.days k.day on in record { first = is.first; last = is.last; name = name }
    by true false on name h = cc
    by false c on name h = cc

pub passes_filter_from : (w : NameDayFilter) (k : NameDay) → IsWanted w k → passes_filter w k ≡ true
passes_filter_from w k is = rw (on_from w.days k.day (record { first = is.first; last = is.last }), is.name)
