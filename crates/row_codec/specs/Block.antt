-- Ends of a block of octets.
use Rattle.std.specs.Prelude.{◌≡◌, ℕ, List, ◌++◌}

-- these octets are an end of the others
abbrev pub IsEndOf : List ℕ → List ℕ → Type 0
IsEndOf rest octets = (front : List ℕ) × (octets ≡ front ++ rest)
