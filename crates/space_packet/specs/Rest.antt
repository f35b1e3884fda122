-- The rest of a dump.
use Rattle.std.specs.Prelude.{ℕ, List, [], ◌∷◌, if◌then◌else◌, nat_lt}
use Rattle.space_packet.specs.declared.dump.Why.{Why}
use Rattle.space_packet.specs.declared.dump.Why.TheVariants.{End, Version, Truncated}

-- what octets are that begin with no packet: none, a packet version number that isn't 000, or less than a packet
abbrev pub why_of : List ℕ → Why
why_of [] = End
why_of (octet ∷ more) = if nat_lt octet 32 then Truncated else Version
