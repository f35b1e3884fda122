-- What makes a reader exact: it reads the spellings of the values that fit, and nothing else.
use Rattle.std.specs.Prelude.{◌≡◌, ℕ, ◌<◌, List, [], ◌++◌, slice_index, Some}
use Rattle.octet_fields.specs.Reading.{Reader}

-- each is an octet
abbrev pub IsOctets : List ℕ → Type 0
IsOctets octets = (i : ℕ) → slice_index octets i < 256

-- What is read is spelled so and fits, and what fits and is spelled so is read, before any octets that may follow.
pub record IsExactBefore {A : Type 0} (MayFollow : List ℕ → Type 0) (Fits : A → Type 0) (spell : A → List ℕ) (read : Reader A) : Type 0 where
  pub takes : (octets : List ℕ) (x : A × List ℕ) → IsOctets octets → read octets ≡ Some x → (octets ≡ spell x.0 ++ x.1) × Fits x.0
  pub again : (a : A) (rest : List ℕ) → MayFollow rest → Fits a → read (spell a ++ rest) ≡ Some (a, rest)

-- octets that may be any
abbrev pub Anything : List ℕ → Type 0
Anything rest = Unit {0}

-- no octet is left
abbrev pub NoMore : List ℕ → Type 0
NoMore rest = rest ≡ []

-- exact whatever follows: no spelling begins another
abbrev pub IsExact : {A : Type 0} → (A → Type 0) → (A → List ℕ) → Reader A → Type 0
IsExact Fits spell read = IsExactBefore Anything Fits spell read

-- exact at the end of the octets
abbrev pub IsExactAtEnd : {A : Type 0} → (A → Type 0) → (A → List ℕ) → Reader A → Type 0
IsExactAtEnd Fits spell read = IsExactBefore NoMore Fits spell read
