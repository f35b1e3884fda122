-- Unsigned varints.
use Rattle.std.specs.Prelude.{ℕ, zero, suc, ◌+◌, ◌-◌, ◌*◌, ◌/◌, ◌%◌, ◌^◌, Bool, List, [], ◌∷◌, Option, Some, None, nat_lt, if◌then◌else◌}
use Rattle.octet_fields.specs.Reading.{Reader, ◌>>=◌, tested_at}

-- at most so many octets of the varint of a number
abbrev pub varint_in : ℕ → ℕ → List ℕ
varint_in zero n = []
varint_in (suc most) n = if nat_lt n 128 then n ∷ [] else (n % 128 + 128) ∷ varint_in most (n / 128)

-- seven bits an octet from the lowest on, the top bit set on all octets but the last
unfoldable pub varint : ℕ → List ℕ
varint n = varint_in (suc n) n

-- ---- reading

-- reads a varint; a last octet of zero is needless, but where it's the only one
abbrev pub varint_at : List ℕ → Option (ℕ × List ℕ)
varint_at [] = None
varint_at (octet ∷ rest) = if nat_lt octet 128 then Some (octet, rest) else (varint_at rest >>= λ high. if nat_lt 0 high.0 then Some (octet - 128 + 128 * high.0, high.1) else None)

-- a varint of at most 14 octets
unfoldable pub is_short : ℕ → Bool
is_short n = nat_lt n (2 ^ 98)

-- reads a varint of at most 14 octets
unfoldable pub short_varint_at : Reader ℕ
short_varint_at = tested_at is_short varint_at
