-- Made packets, and the dumps of links that send them.
use Rattle.std.specs.Prelude.{ℕ, zero, suc, ◌+◌, ◌*◌, ◌/◌, ◌%◌, ◌^◌, List, [], ◌∷◌, ◌++◌}
use Rattle.std.specs.Int.{w16, w32}
use Rattle.std.specs.List.{concat}
use Rattle.octet_fields.specs.Spelling.{number}

-- The packet of a place, telemetry with a secondary header: its identification with the APID, its unsegmented sequence
-- control with the count, its data length; whole seconds from 2024-01-01 on, no fraction; four octets by the seed.
unfoldable pub made_packet : ℕ → ℕ → List ℕ
made_packet seed place =
    number w16 (2 ^ 11 + (1 + place % 40)) ++ number w16 (3 * 2 ^ 14 + place / 40 % 2 ^ 14) ++ number w16 9
    ++ number w32 (1704067200 + 2 * place) ++ number w16 0 ++ number w32 ((seed + 7919 * place) % 2 ^ 32)

-- so many packets, from a place on
abbrev pub made_packets : ℕ → ℕ → ℕ → List (List ℕ)
made_packets seed first zero = []
made_packets seed first (suc count) = made_packets seed first count ++ made_packet seed (first + count) ∷ []

-- how many packets a link's pass begins before that of the link before it: 27 of 50
abbrev pub shift_of : ℕ → ℕ
shift_of packets = 27 * packets / 50

-- the dumps of so many links, each of so many packets; the last link begins with the first packet
abbrev pub made_dumps : ℕ → ℕ → ℕ → List (List ℕ)
made_dumps seed packets zero = []
made_dumps seed packets (suc behind) =
    concat (made_packets seed (shift_of packets * behind) packets) ∷ made_dumps seed packets behind
