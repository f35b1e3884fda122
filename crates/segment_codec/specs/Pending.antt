-- What stands between two octets while numbers of some width are written or read.
use Rattle.std.specs.Prelude.{◌≡◌, ℕ, ◌+◌, ◌*◌, ◌^◌, ◌<◌, List, length}
use Rattle.segment_codec.specs.Bits.{number_from_digits, spare_bits}
use Rattle.segment_codec.specs.declared.bits.Pending.{Pending}

-- fewer than 64 bits, and the number that they are
pub record IsPending (pending : Pending) : Type 0 where
  pub few : pending.count < 64
  pub bits : pending.bits < 2 ^ pending.count

-- how many bits octets have, and the bits behind them
abbrev pub written_bits : List ℕ → Pending → ℕ
written_bits octets pending = 8 * length octets + pending.count

-- the number that octets are, and the bits behind them
abbrev pub written_number : List ℕ → Pending → ℕ
written_number octets pending = number_from_digits 8 octets * 2 ^ pending.count + pending.bits

-- there are so many bits more
abbrev pub IsLongerBy : ℕ → List ℕ → Pending → List ℕ → Pending → Type 0
IsLongerBy width before pending after next = written_bits after next ≡ written_bits before pending + width

-- a number of so many bits was written
abbrev pub HasWritten : ℕ → ℕ → List ℕ → Pending → List ℕ → Pending → Type 0
HasWritten width number before pending after next = written_number after next ≡ written_number before pending * 2 ^ width + number

-- the bits were written, and zero bits that fill their last octet
abbrev pub HasFinished : List ℕ → Pending → List ℕ → Type 0
HasFinished before pending after = number_from_digits 8 after ≡ written_number before pending * 2 ^ spare_bits pending.count

-- how many bits are read next, and octets behind them
abbrev pub unread_bits : Pending → List ℕ → ℕ
unread_bits pending octets = pending.count + 8 * length octets

-- the number that the next bits are, and octets behind them
abbrev pub unread_number : Pending → List ℕ → ℕ
unread_number pending octets = pending.bits * 2 ^ (8 * length octets) + number_from_digits 8 octets

-- a number was read from their front
abbrev pub HasUnpacked : ℕ → Pending → List ℕ → Pending → List ℕ → Type 0
HasUnpacked number pending octets next rest = number * 2 ^ unread_bits next rest + unread_number next rest ≡ unread_number pending octets

-- octets end with the bits that are next, and octets behind them
abbrev pub IsBehind : List ℕ → Pending → List ℕ → Type 0
IsBehind octets next rest =
    (high : ℕ) × (high * 2 ^ unread_bits next rest + unread_number next rest ≡ number_from_digits 8 octets)
