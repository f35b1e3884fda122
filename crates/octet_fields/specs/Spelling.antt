-- What a value is spelled as in octets.
use Rattle.std.specs.Prelude.{ℕ, ℤ, List, ◌++◌, length}
use Rattle.std.specs.Int.{Width, w8, to_be_bytes, cast_unsigned}
use Rattle.std.specs.List.{flat_map}

-- an unsigned number of a width, its highest octet first
unfoldable pub number : Width → ℕ → List ℕ
number w n = to_be_bytes w n

-- the two's complement of a width, its highest octet first
unfoldable pub signed : Width → ℤ → List ℕ
signed w z = number w (cast_unsigned w z)

-- a length of one octet, and that many octets
unfoldable pub name : List ℕ → List ℕ
name octets = number w8 (length octets) ++ octets

-- a count of a width, and that many values
unfoldable pub counted : {A : Type 0} → Width → (A → List ℕ) → List A → List ℕ
counted w spell items = number w (length items) ++ flat_map spell items
