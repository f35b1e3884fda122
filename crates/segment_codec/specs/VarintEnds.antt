-- Passing over varints.
use Rattle.std.specs.Prelude.{ℕ, zero, suc, List, [], ◌∷◌, length, filter, Option, Some, None, nat_lt, if◌then◌else◌}

-- the octets behind so many that each end a varint, each below 128
abbrev pub behind_ends : List ℕ → ℕ → Option (List ℕ)
behind_ends octets zero = Some octets
behind_ends [] (suc n) = None
behind_ends (octet ∷ rest) (suc n) = behind_ends rest (if nat_lt octet 128 then n else suc n)

-- how many of octets end a varint
abbrev pub ends_in : List ℕ → ℕ
ends_in octets = length (filter (λ octet. nat_lt octet 128) octets)
