-- Partitions that are wanted, by their days and packet names.
use Rattle.std.specs.Prelude.{◌≡◌, ℤ, Option, Some, None, Bool, true, false, not, ◌&&◌, int_lt, nat_eq}
use Rattle.std.specs.List.{list_any}
use Rattle.std.specs.declared.cmp.Ordering.{Ordering}
use Rattle.std.specs.declared.cmp.Ordering.TheVariants.{Less, Greater}
use Rattle.partitions.specs.declared.partition.Partition.{Partition}
use Rattle.partitions.specs.declared.name_day.NameDay.{NameDay}
use Rattle.partitions.specs.declared.days.Days.{Days}
use Rattle.partitions.specs.declared.name_day_filter.NameDayFilter.{NameDayFilter}

-- whether a day is one of those in a row
abbrev pub is_on : Days → ℤ → Bool
is_on days day = not (int_lt day days.first) && not (int_lt days.last day)

-- whether a partition's day is
abbrev pub is_on_days : Days → Partition → Bool
is_on_days days partition = is_on days partition.day

-- whether a name day has one of the days and one of the packet names that are wanted
abbrev pub passes_filter : NameDayFilter → NameDay → Bool
passes_filter name_day_filter at = is_on name_day_filter.days at.day && list_any (nat_eq at.pname) name_day_filter.names

-- the first key that passes a test, from a key on, or that there is none
abbrev pub IsFirstFrom : {K : Type 0} → (K → K → Ordering) → (K → Bool) → K → Option K → Type 0
IsFirstFrom {K} cmp test key None = (k : K) → (cmp key k ≡ Greater → ⊥) → test k ≡ false
IsFirstFrom {K} cmp test key (Some next) = (cmp key next ≡ Greater → ⊥) × (test next ≡ true) ×
    ((k : K) → (cmp key k ≡ Greater → ⊥) → cmp k next ≡ Less → test k ≡ false)
