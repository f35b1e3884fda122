-- Eight octets in one word. Private clauses alone cite it, and what a Spelling keeps.
use Rattle.std.specs.Prelude.{ℕ, zero, suc, ◌+◌, ◌*◌, ◌/◌, ◌%◌, Bool, List, [], ◌∷◌, drop, get_or, nat_lt, if◌then◌else◌}

-- an octet that ends a varint
abbrev pub is_last : ℕ → Bool
is_last octet = nat_lt octet 128

-- the top bit of each of so many octets of a number that ends a varint
unfoldable pub ends : ℕ → ℕ → ℕ
ends zero word = 0
ends (suc n) word = (if is_last (word % 256) then 128 else 0) + 256 * ends n (word / 256)

-- so many octets of a number, from the lowest on
unfoldable pub octets_of : ℕ → ℕ → List ℕ
octets_of zero word = []
octets_of (suc n) word = word % 256 ∷ octets_of n (word / 256)

-- so many octets as a number, from the lowest on
unfoldable pub little_endian : ℕ → List ℕ → ℕ
little_endian zero octets = 0
little_endian (suc n) octets = get_or octets 0 0 + 256 * little_endian n (drop 1 octets)

-- the lowest seven bits of each of so many octets of a number, one after the other
unfoldable pub joined : ℕ → ℕ → ℕ
joined zero word = 0
joined (suc n) word = word % 128 + 128 * joined n (word / 256)

-- the lowest seven bits of each 16 of a number of 64
abbrev pub sevens : ℕ → ℕ
sevens word = word % 128 + 0x1_0000 * (word / 0x1_0000 % 128) + 0x1_0000_0000 * (word / 0x1_0000_0000 % 128) + 0x1_0000_0000_0000 * (word / 0x1_0000_0000_0000 % 128)

-- the lowest 14 bits of each 32 of a number of 64
abbrev pub fourteens : ℕ → ℕ
fourteens word = word % 0x4000 + 0x1_0000_0000 * (word / 0x1_0000_0000 % 0x4000)
