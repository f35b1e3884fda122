-- Time texts and their milliseconds.
use Rattle.std.specs.Prelude.{ℕ, ◌-◌, ◌*◌, ◌^◌, ◌==◌, ◌&&◌, Bool, not, List, length, take, drop, codes, slice_index, slice_range, Option, None, option_map, ℤ, pos, neg_ℤ, if◌then◌else◌}
use Rattle.std.specs.Option.{option_or}
use Rattle.time_text.specs.Digits.{has_shape}
use Rattle.text_forms.specs.Digits.{decimal_value, digits_at_most}
use Rattle.time_text.specs.Civil.{moment_of}
use Rattle.time_text.specs.declared.civil.Civil.{Civil}

-- 1 to 15 digits
unfoldable pub number_of : List ℕ → Option ℕ
number_of text = digits_at_most 15 text

-- the text begins with a minus
abbrev pub is_negative : List ℕ → Bool
is_negative text = slice_index text 0 == 45

-- milliseconds: a number, with a minus before it or not
unfoldable pub signed_number_of : List ℕ → Option ℤ
signed_number_of text =
    if is_negative text then option_map (λ n. neg_ℤ (pos n)) (number_of (drop 1 text))
    else option_map (λ n. pos n) (number_of text)

-- the text without the Z that may end it
unfoldable pub without_z : List ℕ → List ℕ
without_z text =
    if slice_index text (length text - 1) == 90 then take (length text - 1) text else text

-- nothing, or a point and 1 to 3 digits
unfoldable pub is_fraction : List ℕ → Bool
is_fraction text = not (length text == 1) && has_shape (take (length text) (codes ".000")) text

-- the milliseconds of a fraction of a second
unfoldable pub millis_in : List ℕ → ℕ
millis_in fraction = decimal_value (drop 1 fraction) * 10 ^ (4 - length fraction)

-- the numbers that stand in YYYY-MM-DDTHH:MM:SS and in the fraction after it
unfoldable pub civil_of : List ℕ → List ℕ → Civil
civil_of text fraction = record {
  year = decimal_value (slice_range text 0 4);
  month = decimal_value (slice_range text 5 7);
  day = decimal_value (slice_range text 8 10);
  hour = decimal_value (slice_range text 11 13);
  minute = decimal_value (slice_range text 14 16);
  second = decimal_value (slice_range text 17 19);
  milli = millis_in fraction;
}

-- both are of their shapes
abbrev pub has_civil_shape : List ℕ → List ℕ → Bool
has_civil_shape text fraction =
    has_shape (codes "0000-00-00T00:00:00") text && is_fraction fraction

-- the moment of a civil text
unfoldable pub civil_time : List ℕ → Option ℤ
civil_time text =
    if has_civil_shape (take 19 text) (drop 19 text) then moment_of (civil_of (take 19 text) (drop 19 text))
    else None

-- the milliseconds that a text stands for, where it is a time text: a count of them, or a civil text with or without a Z
unfoldable pub time_of : List ℕ → Option ℤ
time_of text = option_or (signed_number_of text) (civil_time (without_z text))
