-- The space packet of CCSDS 133.0-B-2, section 4.1: a primary header of 6 octets, and a data field of 1 to 65,536 octets.
use Rattle.std.specs.Prelude.{◌≡◌, ℕ, ◌+◌, ◌*◌, ◌/◌, ◌%◌, ◌<◌, ◌≤◌, List, length, slice_index, Bool, ◌==◌}

-- all octets of the packet that begins with this header: its data length field is the number of data octets minus one (4.1.3.5.3)
abbrev pub packet_length : List ℕ → ℕ
packet_length p = 7 + 256 * slice_index p 4 + slice_index p 5

-- one whole packet, of packet version number 000 (4.1.3.2)
pub record IsPacket (p : List ℕ) : Type 0 where
  pub header : 7 ≤ length p
  pub version : slice_index p 0 < 32
  pub whole : length p ≡ packet_length p

-- the packet type: 0 is telemetry, 1 telecommand (4.1.3.3.2)
abbrev pub type_of : List ℕ → ℕ
type_of p = slice_index p 0 / 16 % 2

-- the secondary header flag (4.1.3.3.3)
abbrev pub secondary_flag : List ℕ → ℕ
secondary_flag p = slice_index p 0 / 8 % 2

-- the application process identifier (4.1.3.3.4)
abbrev pub apid_of : List ℕ → ℕ
apid_of p = 256 * (slice_index p 0 % 8) + slice_index p 1

-- the sequence flags: 0 continuation, 1 first, 2 last, 3 unsegmented (4.1.3.4.2)
abbrev pub flags_of : List ℕ → ℕ
flags_of p = slice_index p 2 / 64

-- the packet sequence count, which runs modulo 16,384 (4.1.3.4.3)
abbrev pub sequence_count_of : List ℕ → ℕ
sequence_count_of p = 256 * (slice_index p 2 % 64) + slice_index p 3

-- whether a packet is idle: its APID is 2047 (4.1.3.3.4.4)
abbrev pub is_idle : List ℕ → Bool
is_idle p = apid_of p == 2047
