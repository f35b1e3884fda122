-- Reading a row from left to right.
use Rattle.std.specs.Prelude.{ℕ, ℤ, List, length, take, drop, slice_index, Some, None, Bool, not, ◌&&◌, nat_lt, nat_le, if◌then◌else◌}
use Rattle.std.specs.Int.{w8, w16, w64}
use Rattle.arch_types.specs.declared.row.Row.{Row}
use Rattle.arch_types.specs.GenerationTime.{key_of}
use Rattle.text_forms.specs.ClockTime.{is_clock_time}
use Rattle.arch_types.specs.Packet.{packet_length, is_idle}
use Rattle.octet_fields.specs.Reading.{Reader, both_at, mapped_at, number_at, signed_at, tested_at}
use Rattle.row_codec.specs.declared.rows.Fields.{Fields as StoredFields}

-- a whole packet
unfoldable pub packet_at : Reader (List ℕ)
packet_at octets =
    if nat_lt (length octets) 7 then None
    else (if nat_le 32 (slice_index octets 0) then None
    else (if nat_lt (length octets) (packet_length octets) then None
    else Some (take (packet_length octets) octets, drop (packet_length octets) octets)))

-- table, reception time, link, packet name, packet
abbrev pub RowFields : Type 0
RowFields = ℕ × (ℤ × (ℕ × (ℕ × List ℕ)))

-- the fields that were read, and the packet
abbrev pub fields_of_row : StoredFields → List ℕ → RowFields
fields_of_row f packet = (f.table, (f.rectime, (f.link, (f.pname, packet))))

-- reads the fields of a row: table, reception time, link, packet name, packet
unfoldable pub fields_at : Reader RowFields
fields_at = both_at (number_at w8) (λ _. both_at (signed_at w64) (λ _. both_at (number_at w8) (λ _. both_at (number_at w16) (λ _. packet_at))))

-- the fields may stand in an archive: a link from 1 on, a moment of a clock, and no idle packet
abbrev pub is_stored : RowFields → Bool
is_stored f = nat_le 1 f.1.1.0 && (is_clock_time f.1.0 && not (is_idle f.1.1.1.1))

-- the row of these fields, with the key of its packet
abbrev pub row_of_fields : RowFields → Row
row_of_fields f = record { key = key_of f.1.1.1.1 f.1.0; rectime = f.1.0; packet = f.1.1.1.1; link = f.1.1.0; pname = f.1.1.1.0; table = f.0 }

-- reads a row
unfoldable pub row_at : Reader Row
row_at = mapped_at row_of_fields (tested_at is_stored fields_at)
