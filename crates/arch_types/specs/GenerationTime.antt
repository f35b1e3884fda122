-- The generation time of a packet, and its key.
use Rattle.std.specs.Prelude.{ℕ, ℤ, pos, ◌+◌, ◌*◌, ◌/◌, ◌^◌, List, length, slice_index, Bool, ◌==◌, ◌&&◌, nat_le, if◌then◌else◌}
use Rattle.arch_types.specs.declared.key.Key.{Key}
use Rattle.arch_types.specs.Packet.{secondary_flag}

-- the two octets from a place on as a number, the first octet the highest
abbrev pub number_of_2 : List ℕ → ℕ → ℕ
number_of_2 p i = 256 * slice_index p i + slice_index p (i + 1)

-- the four octets from a place on as a number, the first octet the highest
abbrev pub number_of_4 : List ℕ → ℕ → ℕ
number_of_4 p i = 2 ^ 16 * number_of_2 p i + number_of_2 p (i + 2)

-- whether the packet tells its generation time: it has a secondary header, and at least 6 octets of data
abbrev pub is_timed : List ℕ → Bool
is_timed p = (secondary_flag p == 1) && nat_le 12 (length p)

-- milliseconds since 1970-01-01T00:00:00 without leap seconds: whole seconds and a fraction of 1/65,536, or else the reception time
abbrev pub generation_time : List ℕ → ℤ → ℤ
generation_time p rectime =
    if is_timed p then pos (1000 * number_of_4 p 6 + number_of_2 p 10 * 1000 / 2 ^ 16) else rectime

-- the key of a packet that was received at a time: its generation time, and its first four octets as a number
abbrev pub key_of : List ℕ → ℤ → Key
key_of p rectime = record { time = generation_time p rectime; seq = number_of_4 p 0 }
