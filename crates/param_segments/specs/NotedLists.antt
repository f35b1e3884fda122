-- Lists in the order in which they came, and their numbers.
use Rattle.std.specs.Prelude.{◌≡◌, ℕ, List, map, nat_eq, Option}
use Rattle.std.specs.Global.{Vec}
use Rattle.std.specs.declared.snapshot.Snapshot.{Snapshot}
use Rattle.std.specs.BTreeMap.{is_at}
use Rattle.std.specs.Cmp.Lexicographic.{slice_cmp}
use Rattle.std.specs.List.{position}
use Rattle.std.specs.Map.{lookup}
use Rattle.std.specs.Ordering.{nat_cmp}
use lib.Pointwise.{pointwise}

-- the lists that were noted, in the order in which they came
abbrev pub noted_lists : List (Snapshot (Vec ℕ)) → List (List ℕ)
noted_lists order = map (λ noted. noted.value.items) order

-- the number of a list among entries, where it is there
abbrev pub number_in : List (Vec ℕ × ℕ) → List ℕ → Option ℕ
number_in entries numbers = lookup (is_at (λ (key : Vec ℕ). slice_cmp nat_cmp numbers key.items)) entries

-- entries have the lists, each with the number of its place, and no others
abbrev pub AreNumbered : List (Vec ℕ × ℕ) → List (List ℕ) → Type 0
AreNumbered entries lists = (numbers : List ℕ) → number_in entries numbers ≡ position (pointwise nat_eq numbers) lists
