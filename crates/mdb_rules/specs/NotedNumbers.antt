-- Numbers in the order in which they came.
use Rattle.std.specs.Prelude.{◌≡◌, ℤ, List, map}
use Rattle.std.specs.declared.snapshot.Snapshot.{Snapshot}
use Rattle.mdb_items.specs.Numbers.{has_number}

-- the numbers that were noted, in the order in which they came
abbrev pub noted_numbers : List (Snapshot ℤ) → List ℤ
noted_numbers order = map (λ noted. noted.value) order

-- lists have the same numbers
abbrev pub HaveSameNumbers : List ℤ → List ℤ → Type 0
HaveSameNumbers keys numbers = (x : ℤ) → has_number x keys ≡ has_number x numbers
