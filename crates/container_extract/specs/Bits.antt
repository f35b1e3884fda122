-- The bit fields of a packet, which is taken as one number.
use Rattle.std.specs.Prelude.{ℕ, zero, suc, ◌+◌, ◌-◌, ◌*◌, ◌/◌, ◌%◌, ◌^◌, List, length, fold, if◌then◌else◌, nat_lt, ℤ, pos, ◌-ℤ◌}
use Rattle.mdb_items.specs.declared.parameter.Coding.{Coding}
use Rattle.mdb_items.specs.declared.parameter.Coding.TheVariants.{Uint, Int, UintLe, IntLe}

-- octets as one number, the first octet the highest
abbrev pub big_endian_number : List ℕ → ℕ
big_endian_number octets = fold (λ number octet. number * 256 + octet) 0 octets

-- the field of so many bits at a bit of a packet, the packet's first bit being bit 0: floor (N / 2^(8 * length - at - width)) mod 2^width
abbrev pub field_at : List ℕ → ℕ → ℕ → ℕ
field_at packet at width = big_endian_number packet / 2 ^ (8 * length packet - at - width) % 2 ^ width

-- a number of so many octets with its octets in the reverse order
abbrev pub reversed : ℕ → ℕ → ℕ
reversed zero number = 0
reversed (suc octets) number = number % 256 * 256 ^ octets + reversed octets (number / 256)

-- two's complement: 2^width is taken off where that is at least 2^(width - 1)
abbrev pub twos_complement : ℕ → ℕ → ℤ
twos_complement width number = if nat_lt number (2 ^ (width - 1)) then pos number else (pos number -ℤ pos (2 ^ width))

-- the number that a field stands for by its coding
abbrev pub coded_as : Coding → ℕ → ℕ → ℤ
coded_as Uint width field = pos field
coded_as Int width field = twos_complement width field
coded_as UintLe width field = pos (reversed (width / 8) field)
coded_as IntLe width field = twos_complement width (reversed (width / 8) field)

-- the raw number of the field of so many bits at a bit of a packet
abbrev pub raw_bits_at : List ℕ → ℕ → ℕ → Coding → ℤ
raw_bits_at packet at width coding = coded_as coding width (field_at packet at width)
