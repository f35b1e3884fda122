-- The octets of a dump that wait to be split.
use Rattle.std.specs.Prelude.{◌≡◌, ℕ, ◌+◌, List, ◌++◌, length, All}
use Rattle.std.specs.List.{concat}
use Rattle.arch_types.specs.Packet.{IsPacket}
use Rattle.arch_types.specs.Dump.{BeginsWithNoPacket}
use Rattle.space_packet.specs.declared.dump.Why.TheVariants as rests
use Rattle.space_packet.specs.declared.splitter.SplitFault.{SplitFault}
use Rattle.space_packet.specs.declared.splitter.SplitFault.TheVariants.{Version, OutOfMemory}
use Rattle.space_packet.specs.Rest.{why_of}

-- where in the dump they begin, and the octets
pub record Waiting : Type 0 where
  pub at : ℕ
  pub octets : List ℕ

-- the octets that were fed are the packets given, joined, and what waits
pub record IsSplitSoFar (fed : List ℕ) (packets : List (List ℕ)) (waiting : Waiting) : Type 0 where
  pub joined : fed ≡ concat packets ++ waiting.octets
  pub each : All IsPacket packets
  pub place : waiting.at ≡ length (concat packets)

-- the octets begin with this packet
pub record IsFirst (packet octets : List ℕ) : Type 0 where
  pub whole : IsPacket packet
  pub more : List ℕ
  pub joined : octets ≡ packet ++ more

-- the packet that waited first was taken, and what is behind it waits
pub record IsTaken (old : Waiting) (packet : List ℕ) (new : Waiting) : Type 0 where
  pub whole : IsPacket packet
  pub joined : old.octets ≡ packet ++ new.octets
  pub place : new.at ≡ old.at + length packet

-- no packet waits whole, and what waits begins with no other packet version number
pub record IsIncomplete (octets : List ℕ) : Type 0 where
  pub no_packet : BeginsWithNoPacket octets
  pub no_version : why_of octets ≡ rests.Version → ⊥

-- a version fault names the place of what waits, which begins with another packet version number; want of memory is
-- free
abbrev pub IsFaultOf : Waiting → SplitFault → Type 0
IsFaultOf waiting (Version at) = (at ≡ waiting.at) × (why_of waiting.octets ≡ rests.Version)
IsFaultOf waiting OutOfMemory = Unit {0}
