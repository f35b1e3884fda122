-- The packets of a dump that is read piece by piece.
use Rattle.std.specs.Prelude.{◌≡◌, ◌⊎◌, ℕ, ◌+◌, ◌<◌, ◌≤◌, List, [], ◌∷◌, ◌++◌, length, drop, Bool, true, false, Option, IfSome}
use Rattle.arch_types.specs.Dump.{IsDump}
use Rattle.outer_traits.specs.declared.whole.ReadFault.{ReadFault}
use Rattle.outer_traits.specs.declared.whole.ReadFault.TheVariants as faulted
use Rattle.outer_traits.specs.Whole.{IsTaken}
use Rattle.space_packet.specs.declared.dump.Why.TheVariants.{Version}
use Rattle.space_packet.specs.Rest.{why_of}
use Rattle.space_packet.specs.Waiting.{IsSplitSoFar, Waiting}
use Rattle.space_packet.specs.Waiting as splitting
use Rattle.dump_pieces.specs.declared.reading.DumpEnd.{DumpEnd}

-- what waits of a dump, and how many octets more it may have
pub record Reading : Type 0 where
  pub waiting : Waiting
  pub room : ℕ

-- of a dump of so many octets at most nothing was read
abbrev pub reading_of : ℕ → Reading
reading_of limit = record { waiting = record { at = 0; octets = [] }; room = limit }

-- how many octets there may still be, of what waits and behind it
abbrev pub octets_left : Reading → ℕ
octets_left reading = length reading.waiting.octets + reading.room

-- ---- what was read and given

-- These packets were given of a dump, whose octets were left at first: what was read of it are they, joined, what
-- waits, and what was passed over, which is nothing unless another packet version number waits.
pub record HasGiven (limit : ℕ) (first left : Option (List ℕ)) (packets : List (List ℕ))
    (reading : Reading) : Type 0 where
  pub fed : List ℕ
  pub passed : List ℕ
  pub taken : IsTaken first (fed ++ passed) left
  pub split : IsSplitSoFar fed packets reading.waiting
  pub passed_over : (passed ≡ []) ⊎ (why_of reading.waiting.octets ≡ Version)
  pub within : length (fed ++ passed) + reading.room ≡ limit

-- the dump is these packets joined, and a rest from the place on that begins with no packet, for the reason told
pub record IsWholeDump (dump : List ℕ) (packets : List (List ℕ)) (end : DumpEnd) : Type 0 where
  pub within : end.at ≤ length dump
  pub parts : IsDump dump packets (drop end.at dump)
  pub few : length packets ≤ length dump
  pub why : end.why ≡ why_of (drop end.at dump)

-- where a dump ends, as far as it was read
abbrev pub end_of_reading : Reading → DumpEnd
end_of_reading reading = record { at = reading.waiting.at; why = why_of reading.waiting.octets }

-- a dump of so many octets at most was read to its end, and these packets were given
pub record IsDumpRead (limit : ℕ) (first : Option (List ℕ)) (packets : List (List ℕ)) (end : DumpEnd) : Type 0 where
  pub dump : List ℕ
  pub whole : IfSome first (λ octets. octets ≡ dump)
  pub short : length dump ≤ limit
  pub received : IsWholeDump dump packets end

-- ---- what a call does, whatever was read and given before

-- the packet is the next
abbrev pub GivesPacket : Option (List ℕ) → Option (List ℕ) → Reading → Reading → List ℕ → Type 0
GivesPacket left left' old new packet =
    (limit : ℕ) (first : Option (List ℕ)) (packets : List (List ℕ)) → HasGiven limit first left packets old
    → HasGiven limit first left' (packets ++ packet ∷ []) new

-- the dump has no other packet
abbrev pub EndsDump : Option (List ℕ) → Reading → Reading → Type 0
EndsDump left old new =
    (limit : ℕ) (first : Option (List ℕ)) (packets : List (List ℕ)) → HasGiven limit first left packets old
    → IsDumpRead limit first packets (end_of_reading new)

-- why none is given: a read failed; the dump has more octets than it may have; or no memory
abbrev pub IsNoPacket : Option (List ℕ) → Reading → ReadFault → Type 0
IsNoPacket left old faulted.Failed = Unit {0}
IsNoPacket left old faulted.TooLong =
    (limit : ℕ) (first : Option (List ℕ)) (packets : List (List ℕ)) → HasGiven limit first left packets old
    → IfSome first (λ octets. limit < length octets)
IsNoPacket left old faulted.OutOfMemory = Unit {0}
IsNoPacket left old faulted.Missing = ⊥

-- ---- its steps

-- the packet that waited first was given
pub record IsPacketGiven (old : Reading) (packet : List ℕ) (new : Reading) : Type 0 where
  pub taken : splitting.IsTaken old.waiting packet new.waiting
  pub room : new.room ≡ old.room

-- a piece waits behind what waited, or was passed over where another packet version number waits
abbrev pub IsPieceKept : Waiting → List ℕ → Waiting → Type 0
IsPieceKept old piece new =
    ((why_of old.octets ≡ Version → ⊥) × (new ≡ record { at = old.at; octets = old.octets ++ piece }))
    ⊎ ((why_of old.octets ≡ Version) × (new ≡ old))

-- a piece was read, and was kept or passed over
pub record HasReadOn (left left' : Option (List ℕ)) (old new : Reading) : Type 0 where
  pub piece : List ℕ
  pub some : 0 < length piece
  pub taken : IsTaken left piece left'
  pub room : new.room + length piece ≡ old.room
  pub kept : IsPieceKept old.waiting piece new.waiting

-- a piece was read, or none was left
abbrev pub ReadsOn : Option (List ℕ) → Option (List ℕ) → Reading → Reading → Bool → Type 0
ReadsOn left left' old new true = HasReadOn left left' old new
ReadsOn left left' old new false = IfSome left (λ octets. octets ≡ []) × (new ≡ old)
