-- The key column: the first key, and how far each next one lies behind the one before.
use Rattle.std.specs.Prelude.{ℕ, zero, suc, ℤ, pos, ◌+◌, ◌/◌, ◌%◌, ◌^◌, ◌<◌, ◌+ℤ◌, ◌-ℤ◌, ◌*ℤ◌, Bool, ◌&&◌, nat_lt, int_lt, List, [], ◌∷◌, ◌++◌, Some, None}
use Rattle.std.specs.Int.{w32, w64}
use Rattle.std.specs.Int.RustNames.{FitsSigned, unsigned_abs}
use Rattle.octet_fields.specs.Reading.{Reader, ◌>>=◌, number_at, signed_at, both_at, tested_at, mapped_at}
use Rattle.octet_fields.specs.Spelling.{number, signed}
use Rattle.arch_types.specs.declared.key.Key.{Key}
use Rattle.varints.specs.Varint.{varint, short_varint_at}

-- a key in the octets of its fields
pub record IsKey (key : Key) : Type 0 where
  pub time : FitsSigned w64 key.time
  pub seq : key.seq < 2 ^ 32

-- a key as one number: its time, and below it the number of 32 bits
abbrev pub key_number : Key → ℤ
key_number key = (key.time *ℤ pos (2 ^ 32)) +ℤ pos key.seq

-- how far a key lies behind another
unfoldable pub key_gap : Key → Key → ℕ
key_gap last key = unsigned_abs (key_number key -ℤ key_number last)

-- the varint of each gap, from one key on
abbrev pub key_gaps : Key → List Key → List ℕ
key_gaps last [] = []
key_gaps last (key ∷ keys) = varint (key_gap last key) ++ key_gaps key keys

-- the first key as i64 time and u32 number
abbrev pub first_key : Key → List ℕ
first_key key = signed w64 key.time ++ number w32 key.seq

-- the first key, and the gap before each next one
abbrev pub key_column : List Key → List ℕ
key_column [] = []
key_column (key ∷ keys) = first_key key ++ key_gaps key keys

-- ---- reading

-- the key that lies so far behind another
abbrev pub key_after : Key → ℕ → Key
key_after last step = record { time = last.time +ℤ pos ((last.seq + step) / 2 ^ 32); seq = (last.seq + step) % 2 ^ 32 }

-- there's a gap, and the key behind it is one
unfoldable pub is_gap : Key → ℕ → Bool
is_gap last step = nat_lt 0 step && int_lt (last.time +ℤ pos ((last.seq + step) / 2 ^ 32)) (pos (2 ^ 63))

-- reads the key behind another
unfoldable pub key_after_at : Key → Reader Key
key_after_at last = mapped_at (key_after last) (tested_at (is_gap last) short_varint_at)

-- reads so many keys behind another
abbrev pub keys_after_at : ℕ → Key → Reader (List Key)
keys_after_at zero last octets = Some ([], octets)
keys_after_at (suc n) last octets = key_after_at last octets >>= λ key. keys_after_at n key.0 key.1 >>= λ more. Some (key.0 ∷ more.0, more.1)

-- the key of the fields that were read
abbrev pub key_of_fields : ℤ × ℕ → Key
key_of_fields fields = record { time = fields.0; seq = fields.1 }

-- reads the first key
unfoldable pub first_key_at : Reader Key
first_key_at = mapped_at key_of_fields (both_at (signed_at w64) (λ _. number_at w32))

-- reads so many keys, at least one
unfoldable pub keys_at : ℕ → Reader (List Key)
keys_at zero octets = None
keys_at (suc n) octets = mapped_at (λ (p : Key × List Key). p.0 ∷ p.1) (both_at first_key_at (λ key. keys_after_at n key)) octets
