-- The numbers of named items in the order of their names.
use Rattle.std.specs.Prelude.{◌≡◌, ℕ, List, [], ◌<◌, Bool, true, false, length, Contains, get_or}
use Rattle.std.specs.Cmp.Lexicographic.{slice_cmp}
use Rattle.std.specs.List.{All}
use Rattle.std.specs.List.Sorted.{IsPartitionPoint, IsSorted}
use Rattle.std.specs.Ordering.{is_lt, nat_cmp, ordering_then}
use Rattle.std.specs.declared.cmp.Ordering.{Ordering}
use Rattle.mdb_items.specs.Texts.{Text}
use Rattle.mdb_lookups.specs.SortedKeys.{AreKeysSorted}

-- the name with a number, without octets where there is none
abbrev pub name_numbered : List Text → ℕ → Text
name_numbered names n = get_or names n []

-- numbers stand by their names, those of one name by themselves
abbrev pub name_cmp : List Text → ℕ → ℕ → Ordering
name_cmp names a b = ordering_then (slice_cmp nat_cmp (name_numbered names a) (name_numbered names b)) (nat_cmp a b)

-- the name with a number comes before another
abbrev pub is_below : List Text → Text → ℕ → Bool
is_below names name n = is_lt (slice_cmp nat_cmp (name_numbered names n) name)

-- the numbers of the names, sorted by their names
pub record IsNameOrder (names : List Text) (order : List ℕ) : Type 0 where
  pub sorted : IsSorted (name_cmp names) order
  pub known : All (λ n. n < length names) order
  pub each : (n : ℕ) → n < length names → Contains order n

-- so many of the first numbers have names that come before another, and the numbers after them have not
abbrev pub IsCountBelow : List Text → List ℕ → Text → ℕ → Type 0
IsCountBelow names order name count = IsPartitionPoint (λ n. is_below names name n ≡ true) (λ n. is_below names name n ≡ false) order count

-- names with the numbers of their items, sorted
abbrev pub AreNamesSorted : List Text → List (Text × ℕ) → Type 0
AreNamesSorted names named = AreKeysSorted (slice_cmp nat_cmp) [] names named
