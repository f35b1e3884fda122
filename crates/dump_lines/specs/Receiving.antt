-- A dump that is received.
use Rattle.std.specs.Prelude.{ℕ, ◌<◌, List, length, Option, IfSome}
use Rattle.outer_traits.specs.declared.whole.ReadFault.{ReadFault}
use Rattle.outer_traits.specs.declared.whole.ReadFault.TheVariants.{Missing, Failed, TooLong, OutOfMemory}
use Rattle.dump_pieces.specs.declared.reading.DumpEnd.{DumpEnd}
use Rattle.dump_pieces.specs.Reading.{IsDumpRead}

-- a dump of so many octets at most, which a source had left, was read to its end, and this is kept of its packets
pub record HasReceived (limit : ℕ) (left : Option (List ℕ)) (keeps : List (List ℕ) → Type 0)
    (end : DumpEnd) : Type 0 where
  pub packets : List (List ℕ)
  pub read : IsDumpRead limit left packets end
  pub kept : keeps packets

-- why a dump wasn't received: a read failed; it has more octets than it may have; or no memory
abbrev pub IsNotReceived : ℕ → Option (List ℕ) → ReadFault → Type 0
IsNotReceived limit left Failed = Unit {0}
IsNotReceived limit left TooLong = IfSome left (λ octets. limit < length octets)
IsNotReceived limit left OutOfMemory = Unit {0}
IsNotReceived limit left Missing = ⊥
