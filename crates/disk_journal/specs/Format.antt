-- What the octets of a journal file mean. A record is a gate octet, its body's length as a big-endian u32, and the
-- body. A gate is open where it is 1.
use Rattle.std.specs.Prelude.{◌≡◌, ◌≢◌, ◌⊎◌, ℕ, ◌+◌, ◌^◌, ◌<◌, ◌≤◌, List, [], ◌∷◌, ◌++◌, length, take}
use Rattle.std.specs.Int.{w32, to_be_bytes, from_be_bytes}

-- what stands behind the gate of a record: the length in four octets, and the body
unfoldable pub framed : List ℕ → List ℕ
framed body = to_be_bytes w32 (length body) ++ body

-- records of these bodies, each behind an open gate
abbrev pub written : List (List ℕ) → List ℕ
written [] = []
written (body ∷ bodies) = 1 ∷ framed body ++ written bodies

-- each length is one that four octets hold
abbrev pub AreSmall : List (List ℕ) → Type 0
AreSmall [] = Unit {0}
AreSmall (body ∷ bodies) = (length body < 2 ^ 32) × AreSmall bodies

-- a closed gate is there, whatever stands behind it
abbrev pub IsClosed : List ℕ → Type 0
IsClosed [] = ⊥
IsClosed (gate ∷ rest) = gate ≢ 1

-- the records of the file are these
pub record HasRecords (file : List ℕ) (bodies : List (List ℕ)) : Type 0 where
  pub tail : List ℕ
  pub small : AreSmall bodies
  pub file_is : file ≡ written bodies ++ tail
  pub closed : IsClosed tail

-- behind these records one more stands whole, behind any gate
pub record HasStaged (file : List ℕ) (bodies : List (List ℕ)) (body : List ℕ) : Type 0 where
  pub gate : ℕ
  pub tail : List ℕ
  pub small : AreSmall bodies
  pub small_too : length body < 2 ^ 32
  pub file_is : file ≡ written bodies ++ (gate ∷ framed body ++ tail)
  pub closed : IsClosed tail

-- the open record at this gate, with the gate octet after it, passes the end of the file
pub record IsDamagedAt (file : List ℕ) (at : ℕ) : Type 0 where
  pub bodies : List (List ℕ)
  pub rest : List ℕ
  pub small : AreSmall bodies
  pub file_is : file ≡ written bodies ++ 1 ∷ rest
  pub at_is : at ≡ length (written bodies)
  pub short : length rest ≤ 4 + from_be_bytes w32 (take 4 rest)

-- the file holds no archive
abbrev pub HoldsNone : List ℕ → Type 0
HoldsNone [] = Unit {0}
HoldsNone (gate ∷ []) = Unit {0}
HoldsNone (gate ∷ next ∷ rest) = gate ≢ 1

-- the records up to a place, and what stands from there on
pub record HasUpTo (file : List ℕ) (at : ℕ) (bodies : List (List ℕ)) : Type 0 where
  pub rest : List ℕ
  pub small : AreSmall bodies
  pub file_is : file ≡ written bodies ++ rest
  pub at_is : at ≡ length (written bodies)

-- the records from before, with one more or without it
abbrev pub IsBeforeOrAfter : List (List ℕ) → List ℕ → List ℕ → Type 0
IsBeforeOrAfter bodies body file = HasRecords file bodies ⊎ HasRecords file (bodies ++ body ∷ [])
