-- How the pieces of a dump are read.
use Rattle.std.specs.Prelude.{◌≡◌, ℕ, ◌<◌, List, [], length, Option, IfSome}
use Rattle.outer_traits.specs.declared.whole.ReadFault.{ReadFault}
use Rattle.outer_traits.specs.declared.whole.ReadFault.TheVariants as faulted
use Rattle.outer_traits.specs.Whole.{IsTaken}

-- a piece was taken of the octets that were left; where it has none, none were left
pub record IsPiece (left new : Option (List ℕ)) (piece : List ℕ) : Type 0 where
  pub taken : IsTaken left piece new
  pub end : piece ≡ [] → IfSome left (λ octets. octets ≡ [])

-- Why there is no piece: a read failed; or there is no room, and an octet more; or no memory. No other fault is.
abbrev pub IsNoPiece : Option (List ℕ) → ℕ → ReadFault → Type 0
IsNoPiece left room faulted.Failed = Unit {0}
IsNoPiece left room faulted.TooLong = (room ≡ 0) × IfSome left (λ octets. 0 < length octets)
IsNoPiece left room faulted.OutOfMemory = Unit {0}
IsNoPiece left room faulted.Missing = ⊥
