-- The texts of a sheet's fields: labels and numbers, and the place of a name. What a name is, text_forms says (specs/Names.antt).
use Rattle.std.specs.Prelude.{ℕ, ◌+◌, ◌*◌, ◌-◌, ◌^◌, ◌==◌, ◌&&◌, Bool, true, false, List, [], ◌∷◌, length, take, drop, Option, Some, None, if◌then◌else◌, nat_le, slice_get, unwrap_or, position, option_map, ℤ, pos, negsuc, neg_ℤ, min}
use Rattle.std.specs.List.{list_all}
use Rattle.std.specs.Str.{bytes_eq}
use Rattle.text_forms.specs.Digits.{decimal_value, digits_at_most, is_digit}
use Rattle.mdb_items.specs.Limits.{longest_packet_bits}

-- the octets of a text
abbrev pub Text : Type 0
Text = List ℕ

-- the field of a record at a place, or no octet where the record has none
abbrev pub field : List Text → ℕ → Text
field record_ i = unwrap_or (slice_get record_ i) []

-- the place of a name among names
abbrev pub place_of : Text → List Text → Option ℕ
place_of name names = position (bytes_eq name) names

-- an octet that prints, from the space to `~`
abbrev pub is_printable : ℕ → Bool
is_printable b = nat_le 32 b && nat_le b 126

-- a label is 1 to 64 of these octets
abbrev pub is_label : Text → Bool
is_label text = nat_le 1 (length text) && nat_le (length text) 64 && list_all is_printable text

-- the text begins with `-`
abbrev pub is_minus : Text → Bool
is_minus [] = false
is_minus (b ∷ rest) = b == 45

-- the number with its sign
abbrev pub with_sign : Bool → ℕ → ℤ
with_sign minus n = if minus then neg_ℤ (pos n) else pos n

-- whole numbers go from -2^63 to 2^64 - 1
abbrev pub is_whole : Bool → ℕ → Bool
is_whole minus n = if minus then nat_le n 9223372036854775808 else nat_le n 18446744073709551615

-- the whole number of a sign and digits, where it is in range
abbrev pub whole_from : Bool → Option ℕ → Option ℤ
whole_from minus None = None
whole_from minus (Some n) = if is_whole minus n then Some (with_sign minus n) else None

-- an optional `-` and 1 to 20 digits, in that range
abbrev pub whole_number : Text → Option ℤ
whole_number text = if is_minus text then whole_from true (digits_at_most 20 (drop 1 text)) else whole_from false (digits_at_most 20 text)

-- millionths, from the digits before a point and those after it
abbrev pub millionths_from : Option ℕ → Option ℕ → ℕ → Option ℕ
millionths_from None fraction places = None
millionths_from (Some n) None places = None
millionths_from (Some n) (Some fraction) places = Some (1000000 * n + fraction * 10 ^ (6 - places))

-- the millionths of a text with its point at a place, or without a point
abbrev pub millionths_at : Option ℕ → Text → Option ℕ
millionths_at None text = millionths_from (digits_at_most 12 text) (Some 0) 0
millionths_at (Some point) text = millionths_from (digits_at_most 12 (take point text)) (digits_at_most 6 (drop (point + 1) text)) (length (drop (point + 1) text))

-- 1 to 12 digits, and optionally a point and 1 to 6 digits, in millionths
abbrev pub millionths : Text → Option ℕ
millionths text = millionths_at (position (λ b. b == 46) text) text

-- an optional `-`, and then that
abbrev pub decimal_number : Text → Option ℤ
decimal_number text = if is_minus text then option_map (with_sign true) (millionths (drop 1 text)) else option_map (with_sign false) (millionths text)

-- the number, where it lies between two others
abbrev pub between : ℕ → ℕ → Option ℤ → Option ℕ
between low high None = None
between low high (Some (negsuc n)) = None
between low high (Some (pos n)) = if nat_le low n && nat_le n high then Some n else None

-- a whole number between two others
abbrev pub small_number : ℕ → ℕ → Text → Option ℕ
small_number low high text = between low high (whole_number text)

-- one digit or more; beyond the last bit of a packet all numbers are alike
abbrev pub offset : Text → Option ℕ
offset text = if nat_le 1 (length text) && list_all is_digit text then Some (min (decimal_value text) longest_packet_bits) else None
