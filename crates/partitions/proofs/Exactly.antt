-- What bounds want is what may hold a row in them.
use Rattle.std.proofs.Common.{◌≡◌, ℕ, ℤ, pos, ◌-ℤ◌, ◌<ℤ◌, ◌≤ℤ◌, ◌↔◌, true, List, Some, None, sym, ◌∙◌, arith}
use Rattle.std.specs.Prelude.{Contains, filter, nat_eq}
use Rattle.std.specs.List.{list_any}
use Rattle.std.specs.Cmp.{nat_eq_equiv}
use Rattle.std.proofs.lemmas.Bool.Decides.{nat_tests}
use Rattle.std.proofs.lemmas.Int.{ints}
use Rattle.std.proofs.lemmas.Map.Views.{Contains-from_any, list_any-from_Contains}
use Rattle.partitions.specs.declared.partition.Partition.{Partition}
use Rattle.partitions.specs.declared.bounds.Bounds.{Bounds}
use Rattle.partitions.specs.declared.days.Days.{Days}
use Rattle.partitions.specs.declared.name_day_filter.NameDayFilter.{NameDayFilter}
use Rattle.time_text.specs.Day.{day_of}
use Rattle.partitions.specs.NameDay.{name_day}
use Rattle.partitions.specs.Bounds.{HasTimeOn, MayHold}
use Rattle.partitions.specs.NameDayFilter.{is_on, passes_filter}
use Rattle.time_text.proofs.DayFacts.{days_rise}
use Rattle.partitions.proofs.TimesOfDays.{has_time_on}
use Rattle.partitions.proofs.Members.{filter_has}
use Rattle.partitions.proofs.Firsts.{passes_filter_is, passes_filter_from, on_is, on_from}

same_names : (x y : ℕ) → nat_eq x y ≡ true → x ≡ y
same_names x y e = grind (arith, nat_tests)

-- the days from the first time's to the last time's are those of the times
module _ (from to : ℤ) (days : Days) (some : from <ℤ to) (first : days.first ≡ day_of from) (last : days.last ≡ day_of (to -ℤ pos 1)) where
  pub days_exactly : (day : ℤ) → (is_on days day ≡ true) ↔ HasTimeOn from to day
  days_exactly day = (
    λ on. (let is = on_is days day on in (has_time_on from to day some).1 (rw first at is.first, rw last at is.last)),
    λ has. (let is = (has_time_on from to day some).0 has in on_from days day (record { first = rw first is.0; last = rw last is.1 })),
  )

  pub days_some : days.first ≤ℤ days.last
  days_some = rw (first, last) (days_rise from (to -ℤ pos 1) (omega (arith, ints, some)))

module _ (bounds : Bounds) (days : Days) (on : (day : ℤ) → (is_on days day ≡ true) ↔ HasTimeOn bounds.from bounds.to day) where
  -- where there is no list, the day decides
  pub all_exactly : bounds.names ≡ None → (p : Partition) → (is_on days p.day ≡ true) ↔ MayHold bounds p
  all_exactly none p = (λ is. record { day = (on p.day).0 is; name = rw none tt }, λ may. (on p.day).1 may.day)

  -- a list with the same names wants the same
  pub named_exactly : (names sorted : List ℕ) → bounds.names ≡ Some names → ((p : ℕ) → list_any (nat_eq p) sorted ≡ list_any (nat_eq p) names) →
      (p : Partition) → (passes_filter (record { days = days; names = sorted }) (name_day p) ≡ true) ↔ MayHold bounds p
  named_exactly names sorted is same p = (to, from)
    where
      w : NameDayFilter
      w = record { days = days; names = sorted }

      to : passes_filter w (name_day p) ≡ true → MayHold bounds p
      to wants = let has = passes_filter_is w (name_day p) wants in
          record {
            day = (on p.day).0 (on_from days p.day (record { first = has.first; last = has.last }));
            name = rw is (Contains-from_any {eq = nat_eq} same_names p.pname names (sym (same p.pname) ∙ has.name));
          }

      from : MayHold bounds p → passes_filter w (name_day p) ≡ true
      from may = let has = on_is days p.day ((on p.day).1 may.day) in
          passes_filter_from w (name_day p) (record { first = has.first; last = has.last; name = same p.pname ∙ list_any-from_Contains nat_eq_equiv p.pname names (rw is at may.name) })

  -- of the partitions on those days, the ones of a list's names are what may hold a row in the bounds
  pub listed_exactly : (names : List ℕ) (parts noted : List Partition) → bounds.names ≡ Some names → ((p : Partition) → Contains parts p ↔ (Contains noted p × (is_on days p.day ≡ true))) →
      (p : Partition) → Contains (filter (λ q. list_any (nat_eq q.pname) names) parts) p ↔ (Contains noted p × MayHold bounds p)
  listed_exactly names parts noted is held p = (to, from)
    where
      to : Contains (filter (λ q. list_any (nat_eq q.pname) names) parts) p → Contains noted p × MayHold bounds p
      to at =
          let both = (filter_has (λ q. list_any (nat_eq q.pname) names) parts p).0 at in
          let there = (held p).0 both.0 in
          (there.0, record { day = (on p.day).0 there.1; name = rw is (Contains-from_any {eq = nat_eq} same_names p.pname names both.1) })

      from : Contains noted p × MayHold bounds p → Contains (filter (λ q. list_any (nat_eq q.pname) names) parts) p
      from both =
          let named = list_any-from_Contains nat_eq_equiv p.pname names (rw is at both.1.name) in
          (filter_has (λ q. list_any (nat_eq q.pname) names) parts p).1 ((held p).1 (both.0, (on p.day).1 both.1.day), named)
