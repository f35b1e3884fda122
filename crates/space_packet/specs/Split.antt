-- A dump that was split.
use Rattle.std.specs.Prelude.{◌≡◌, ℕ, ◌≤◌, List, drop, length}
use Rattle.arch_types.specs.Dump.{IsDump}
use Rattle.space_packet.specs.declared.packets.Split.{Split}
use Rattle.space_packet.specs.Rest.{why_of}

-- the dump is the packets joined, and a rest from the place on that begins with no packet, for the reason told
pub record IsSplit (dump : List ℕ) (split : Split) : Type 0 where
  pub within : split.at ≤ length dump
  pub parts : IsDump dump split.packets (drop split.at dump)
  pub why : split.why ≡ why_of (drop split.at dump)
