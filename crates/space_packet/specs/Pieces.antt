-- Pieces of a dump in a row, and a place in the first of them.
use Rattle.std.specs.Prelude.{◌≡◌, ℕ, ◌+◌, ◌^◌, ◌<◌, List, [], ◌∷◌, length, drop}
use Rattle.std.specs.List.{concat}

-- the place is in the first piece, or 0 where there is none
abbrev pub StartsInFirst : List (List ℕ) → ℕ → Type 0
StartsInFirst [] start = start ≡ 0
StartsInFirst (piece ∷ more) start = start < length piece

-- of the octets that were fed, those from octet `at` of the dump on are in these pieces, from a place in the first on
pub record HoldsWaiting (pieces : List (List ℕ)) (start at fed : ℕ) : Type 0 where
  pub first : StartsInFirst pieces start
  pub short : start < 2 ^ 32
  pub count : fed ≡ at + length (drop start (concat pieces))
