-- How the rest of a dump is answered.
use Rattle.std.specs.Prelude.{ℕ, ◌-◌, List, [], ◌∷◌, length, Option, Some, None, ◌≡◌, ◌+◌, nat_lt, if◌then◌else◌}
use Rattle.refusals.specs.declared.refusal.Refusal.{Refusal}
use Rattle.refusals.specs.declared.refusal.Refusal.TheVariants.{BadPacket}
use Rattle.refusals.specs.declared.refusal.Which.TheVariants.{DumpOctets}
use Rattle.refusals.specs.declared.refusal.BadKind.{BadKind}
use Rattle.refusals.specs.declared.refusal.BadKind.TheVariants.{Version, Truncated}
use Rattle.refusals.specs.Limits.{limit_of}
use Rattle.space_packet.specs.declared.dump.Why.{Why}
use Rattle.space_packet.specs.declared.dump.Why.TheVariants as why

-- the greatest number of octets of a dump
abbrev pub dump_limit : ℕ
dump_limit = limit_of DumpOctets

-- why octets are no packet: their packet version number isn't 000, or they end inside it
abbrev pub bad_kind_of : ℕ → BadKind
bad_kind_of octet = if nat_lt octet 32 then Truncated else Version

-- the rest isn't empty: it begins at an octet, and is no packet for a reason
abbrev pub IsBadRest : List ℕ → List ℕ → ℕ → BadKind → Type 0
IsBadRest dump [] at kind = ⊥
IsBadRest dump (octet ∷ rest) at kind = (at + length (octet ∷ rest) ≡ length dump) × (kind ≡ bad_kind_of octet)

-- the ending by why no packet follows
abbrev pub ending_of : Why → ℕ → Option Refusal
ending_of why.End at = None
ending_of why.Version at = Some (BadPacket at Version)
ending_of why.Truncated at = Some (BadPacket at Truncated)

-- the ending by the rest of a dump
abbrev pub ending_of_rest : List ℕ → List ℕ → Option Refusal
ending_of_rest dump [] = None
ending_of_rest dump (octet ∷ rest) = Some (BadPacket (length dump - length (octet ∷ rest)) (bad_kind_of octet))
