-- Readers on lists of octets: a value from the front and the octets after it, or nothing.
use Rattle.std.specs.Prelude.{ℕ, zero, suc, ℤ, List, [], ◌∷◌, length, take, drop, Option, Some, None, Bool, nat_lt, ◌==◌, if◌then◌else◌}
use Rattle.std.specs.Int.{Width, w8, byte_len, from_be_bytes, cast_signed}

-- a reader of a kind of value: the value and the octets after it, or nothing
abbrev pub Reader : Type 0 → Type 0
Reader A = List ℕ → Option (A × List ℕ)

infixl 10 ◌>>=◌
-- what a second reading makes of what the first gave, where it gave something
abbrev pub ◌>>=◌ : {A B : Type 0} → Option A → (A → Option B) → Option B
None >>= f = None
(Some x) >>= f = f x

-- ---- leaves

-- an unsigned number of a width, its highest octet first
unfoldable pub number_at : Width → Reader ℕ
number_at w octets = if nat_lt (length octets) (byte_len w) then None else Some (from_be_bytes w (take (byte_len w) octets), drop (byte_len w) octets)

-- so many octets, as they stand
unfoldable pub octets_at : ℕ → Reader (List ℕ)
octets_at n octets = if nat_lt (length octets) n then None else Some (take n octets, drop n octets)

-- all octets to the end
abbrev pub rest_at : Reader (List ℕ)
rest_at octets = Some (octets, [])

-- what no octets spell
abbrev pub nothing_at : {A : Type 0} → Reader A
nothing_at octets = None

-- ---- readers made of readers

-- two values, one after the other, the second as the first asks
abbrev pub both_at : {A B : Type 0} → Reader A → (A → Reader B) → Reader (A × B)
both_at first second octets = first octets >>= λ a. second a.0 a.1 >>= λ b. Some ((a.0, b.0), b.1)

-- a value that passes a test
abbrev pub tested_at : {A : Type 0} → (A → Bool) → Reader A → Reader A
tested_at test read octets = read octets >>= λ a. if test a.0 then Some a else None

-- a value seen as another
abbrev pub mapped_at : {A B : Type 0} → (A → B) → Reader A → Reader B
mapped_at view read octets = read octets >>= λ a. Some (view a.0, a.1)

-- a value seen as another, where it stands for one
abbrev pub decoded_at : {A B : Type 0} → (A → Option B) → Reader A → Reader B
decoded_at view read octets = read octets >>= λ a. view a.0 >>= λ b. Some (b, a.1)

-- a value whose kind, one octet, stands before it
abbrev pub kind_at : {A : Type 0} → (ℕ → Reader A) → Reader A
kind_at readers octets = number_at w8 octets >>= λ kind. readers kind.0 kind.1

-- so many values, one after the other
unfoldable pub times_at : {A : Type 0} → Reader A → ℕ → Reader (List A)
times_at read zero octets = Some ([], octets)
times_at read (suc n) octets = read octets >>= λ a. times_at read n a.1 >>= λ more. Some (a.0 ∷ more.0, more.1)

-- the two's complement of a width, its highest octet first
unfoldable pub signed_at : Width → Reader ℤ
signed_at w = mapped_at (cast_signed w) (number_at w)

-- a length of one octet, and that many octets
unfoldable pub name_at : Reader (List ℕ)
name_at = mapped_at (λ p. p.1) (both_at (number_at w8) octets_at)

-- a count of a width, and that many values
unfoldable pub counted_at : {A : Type 0} → Width → Reader A → Reader (List A)
counted_at w read = mapped_at (λ p. p.1) (both_at (number_at w) (λ n. times_at read n))

-- the value that all of the octets spell
abbrev pub whole : {A : Type 0} → Reader A → List ℕ → Option A
whole read octets = read octets >>= λ a. if length a.1 == 0 then Some a.0 else None
