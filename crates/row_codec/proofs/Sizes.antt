-- How long the spelling of a row is.
use Rattle.std.proofs.Common.{◌≡◌, ℕ, ◌+◌, ◌≤◌, ◌%◌, List, ◌∷◌, length, get_or, refl, arith}
use Rattle.std.specs.Int.{w16, w64, to_be_bytes, cast_unsigned}
use Rattle.arch_types.specs.declared.row.Row.{Row}
use Rattle.arch_types.specs.Packet.{IsPacket}
use Rattle.octet_fields.specs.Exact.{IsOctets}
use Rattle.octet_fields.specs.Spelling.{number, signed}
use Rattle.row_codec.specs.Rows.{IsStored}
use Rattle.row_codec.specs.Spelling.{row_octets}

pub row_size : (row : Row) → length (row_octets row) ≡ 12 + length row.packet
unfolding row_octets number signed
row_size row = omega arith

pub packet_short : (p : List ℕ) → IsPacket p → IsOctets p → length p ≤ 65542
packet_short p is are = let whole = is.whole in omega (arith, whole, are 4, are 5)

-- the octets before a packet, one by one
pub front_and_packet : (row : Row) → IsStored row → (time name : List ℕ) → time ≡ to_be_bytes w64 (cast_unsigned w64 row.rectime) → name ≡ to_be_bytes w16 row.pname →
    row.table ∷ get_or time 0 0 ∷ get_or time 1 0 ∷ get_or time 2 0 ∷ get_or time 3 0 ∷ get_or time 4 0 ∷ get_or time 5 0 ∷ get_or time 6 0 ∷ get_or time 7 0
    ∷ row.link ∷ get_or name 0 0 ∷ get_or name 1 0 ∷ row.packet ≡ row_octets row
unfolding row_octets number signed
front_and_packet row stored time name is_time is_name =
    let table : row.table % 256 ≡ row.table = omega (arith, stored.table) in
    let link : row.link % 256 ≡ row.link = omega (arith, stored.link.1) in
    rw (is_time, is_name, table, link) refl
