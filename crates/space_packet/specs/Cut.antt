-- Packets of a dump before a place.
use Rattle.std.specs.Prelude.{◌≡◌, ℕ, ◌≤◌, List, ◌++◌, drop, length, slice_range, All}
use Rattle.std.specs.List.{concat}
use Rattle.arch_types.specs.Packet.{IsPacket}

-- a dump, and an octet of it
pub record DumpPosition : Type 0 where
  pub dump : List ℕ
  pub at : ℕ

-- the octets of a dump from one place to another are a packet
pub record IsPacketRange (dump : List ℕ) (start end : ℕ) : Type 0 where
  pub rising : start ≤ end
  pub within : end ≤ length dump
  pub packet : IsPacket (slice_range dump start end)

-- the octets of a dump before a place are these packets joined
pub record IsCut (dump : List ℕ) (packets : List (List ℕ)) (at : ℕ) : Type 0 where
  pub within : at ≤ length dump
  pub joined : dump ≡ concat packets ++ drop at dump
  pub each : All IsPacket packets
