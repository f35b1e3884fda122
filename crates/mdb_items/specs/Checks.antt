-- Rules in their order, and the first that is broken.
use Rattle.std.specs.Prelude.{ℕ, zero, suc, Bool, List, [], ◌∷◌, Option, Some, None, if◌then◌else◌, option_map}

-- the rules of one row from the left: each rule's number, and whether the row breaks it
abbrev pub Checks : Type 0
Checks = List (ℕ × Bool)

-- the number of the first rule that is broken
abbrev pub first_broken : Checks → Option ℕ
first_broken [] = None
first_broken ((rule, broken) ∷ rest) = if broken then Some rule else first_broken rest

-- the first of two
abbrev pub or_else : {X : Type 0} → Option X → Option X → Option X
or_else None later = later
or_else (Some x) later = Some x

-- the least place below n with a fault, and that fault
unfoldable pub first_at : (ℕ → Option ℕ) → ℕ → Option (ℕ × ℕ)
first_at fault zero = None
first_at fault (suc n) = or_else (first_at fault n) (option_map (λ rule. (n, rule)) (fault n))
