-- Numbers of some width, one after the other, without gaps.
use Rattle.std.specs.Prelude.{ℕ, zero, suc, ◌+◌, ◌-◌, ◌*◌, ◌/◌, ◌%◌, ◌^◌, ◌==◌, List, [], ◌∷◌, ◌++◌, length, take, drop, fold, Some, None, nat_lt, if◌then◌else◌}
use Rattle.octet_fields.specs.Reading.{Reader}

-- the number whose digits of so many bits these are, the highest first
unfoldable pub number_from_digits : ℕ → List ℕ → ℕ
number_from_digits width digits = fold (λ high digit. high * 2 ^ width + digit) 0 digits

-- the last so many digits of a number, of so many bits each
unfoldable pub digits_of : ℕ → ℕ → ℕ → List ℕ
digits_of width zero n = []
digits_of width (suc count) n = digits_of width count (n / 2 ^ width) ++ (n % 2 ^ width) ∷ []

-- how many octets so many bits fill
abbrev pub octet_count : ℕ → ℕ
octet_count bits = (bits + 7) / 8

-- how many bits of the last of them are left
abbrev pub spare_bits : ℕ → ℕ
spare_bits bits = 8 * octet_count bits - bits

-- numbers of a width, the highest bit first and without gaps, the last octet filled with zero bits
unfoldable pub packed : ℕ → List ℕ → List ℕ
packed width numbers = digits_of 8 (octet_count (width * length numbers)) (number_from_digits width numbers * 2 ^ spare_bits (width * length numbers))

-- ---- reading

-- reads so many numbers of a width
unfoldable pub packed_at : ℕ → ℕ → Reader (List ℕ)
packed_at width count octets =
    let octet_len = octet_count (width * count) in
    let unit = 2 ^ spare_bits (width * count) in
    let number = number_from_digits 8 (take octet_len octets) in
    if nat_lt (length octets) octet_len then None
    else (if number % unit == 0 then Some (digits_of width count (number / unit), drop octet_len octets) else None)
