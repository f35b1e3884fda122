-- A dump: packets one after the other with nothing between them, and a rest that begins with no packet.
use Rattle.std.specs.Prelude.{◌≡◌, ℕ, List, ◌++◌, All}
use Rattle.std.specs.List.{concat}
use Rattle.arch_types.specs.Packet.{IsPacket}

-- no packet is a prefix of these octets
abbrev pub BeginsWithNoPacket : List ℕ → Type 0
BeginsWithNoPacket rest = (p more : List ℕ) → IsPacket p → rest ≡ p ++ more → ⊥

-- the dump is these packets joined, and then this rest
pub record IsDump (dump : List ℕ) (packets : List (List ℕ)) (rest : List ℕ) : Type 0 where
  pub joined : dump ≡ concat packets ++ rest
  pub each : All IsPacket packets
  pub no_more : BeginsWithNoPacket rest
