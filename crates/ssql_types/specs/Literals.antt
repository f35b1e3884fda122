-- What literals stand for.
use Rattle.std.specs.Prelude.{ℕ, ◌==◌, nat_le, List, [], ◌∷◌, drop, Option, Some, None, option_and_then, unwrap_or, position, Bool, false, ℤ, pos, negsuc, neg_ℤ, if◌then◌else◌}
use Rattle.std.specs.Str.{bytes_eq}
use Rattle.text_forms.specs.Digits.{digits_at_most}
use Rattle.time_text.specs.TimeText.{time_of}
use Rattle.ssql_parse.specs.declared.condition.Literal.{Literal}
use Rattle.ssql_parse.specs.declared.condition.Literal.TheVariants as l

-- ---- numbers

-- the text begins with `-`
abbrev pub has_minus : List ℕ → Bool
has_minus [] = false
has_minus (b ∷ rest) = b == 45

-- a number of digits up to 2^63 - 1
abbrev pub up_to_greatest : ℕ → Option ℤ
up_to_greatest n = if nat_le n 9223372036854775807 then Some (pos n) else None

-- the negative of a number of digits, down to -2^63
abbrev pub down_to_least : ℕ → Option ℤ
down_to_least n = if nat_le n 9223372036854775808 then Some (neg_ℤ (pos n)) else None

-- the number that an optional `-` and 1 to 20 digits spell, where it lies from -2^63 to 2^63 - 1
abbrev pub script_number : List ℕ → Option ℤ
script_number text =
    if has_minus text then option_and_then down_to_least (digits_at_most 20 (drop 1 text))
    else option_and_then up_to_greatest (digits_at_most 20 text)

-- a number that isn't negative
abbrev pub if_natural : ℤ → Option ℕ
if_natural (pos n) = Some n
if_natural (negsuc n) = None

-- the count that a text spells: such a number, and not a negative one
abbrev pub script_count : List ℕ → Option ℕ
script_count text = option_and_then if_natural (script_number text)

-- ---- what a literal stands for that breaks no rule; a script with one that does is refused, and its meaning is of no account

-- against a TIMESTAMP or an INT: a number, or the milliseconds of a time text
abbrev pub literal_number : Literal → ℤ
literal_number (l.Number text) = unwrap_or (script_number text) (pos 0)
literal_number (l.Quoted text) = unwrap_or (time_of text) (pos 0)

-- against an ENUM: the place of the name among the packet names, or none of them
abbrev pub literal_name : List (List ℕ) → Literal → Option ℕ
literal_name names (l.Number text) = None
literal_name names (l.Quoted text) = position (bytes_eq text) names
