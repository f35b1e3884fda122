-- Places in a list, counted from 0.
use Rattle.std.specs.Prelude.{ℕ, ◌+◌, List, [], ◌∷◌, Bool, true, false, Option, Some, None, option_map, if◌then◌else◌}

-- the first place of an item that passes the test
abbrev pub first_place : {X : Type 0} → (X → Bool) → List X → Option ℕ
first_place test [] = None
first_place test (x ∷ xs) = if test x then Some 0 else option_map (λ place. place + 1) (first_place test xs)

-- by whether the head passes the test, and the last place behind it
abbrev pub last_with : Bool → Option ℕ → Option ℕ
last_with head (Some place) = Some (place + 1)
last_with true None = Some 0
last_with false None = None

-- the last place of an item that passes the test
abbrev pub last_place : {X : Type 0} → (X → Bool) → List X → Option ℕ
last_place test [] = None
last_place test (x ∷ xs) = last_with (test x) (last_place test xs)
