-- How long the longest word, number and string at a front are.
use Rattle.std.specs.Prelude.{◌+◌, ◌==◌, min, ℕ, Bool, List, [], ◌∷◌, length, take_while, Option, Some, None, if◌then◌else◌}
use Rattle.text_forms.specs.Digits.{is_digit}
use Rattle.ssql_tokens.specs.TokenTexts.{is_word_octet, is_string_octet}

-- the number of octets at a front that pass a test, or the greatest number that may
abbrev pub leading_len : (ℕ → Bool) → ℕ → List ℕ → ℕ
leading_len test most text = min (length (take_while test text)) most

-- of a word whose first octet is known to be a letter
abbrev pub word_len : List ℕ → ℕ
word_len text = leading_len is_word_octet 64 text

-- a length above 0
abbrev pub positive : ℕ → Option ℕ
positive len = if len == 0 then None else Some len

-- of digits
abbrev pub digits_len : List ℕ → Option ℕ
digits_len text = positive (leading_len is_digit 20 text)

-- one octet more
abbrev pub one_longer : Option ℕ → Option ℕ
one_longer None = None
one_longer (Some len) = Some (len + 1)

-- of a number
abbrev pub number_len : List ℕ → Option ℕ
number_len [] = None
number_len (b ∷ rest) = if b == 45 then one_longer (digits_len rest) else digits_len (b ∷ rest)

-- Behind a quote a string goes on behind a second one if it ends somewhere later, and else it ended at the first of the two.
abbrev pub behind_two_quotes : Option ℕ → Option ℕ
behind_two_quotes None = Some 1
behind_two_quotes (Some len) = Some (len + 2)

-- of a string, behind its first quote
abbrev mutual
  pub string_len : List ℕ → Option ℕ
  string_len [] = None
  string_len (b ∷ rest) = if b == 39 then string_len_at_quote rest else (if is_string_octet b then one_longer (string_len rest) else None)

  pub string_len_at_quote : List ℕ → Option ℕ
  string_len_at_quote [] = Some 1
  string_len_at_quote (b ∷ rest) = if b == 39 then behind_two_quotes (string_len rest) else Some 1

-- the longest string that was seen to end, or the one that ends so far behind a place
abbrev pub or_last : Option ℕ → ℕ → Option ℕ → Option ℕ
or_last last at None = last
or_last last at (Some len) = Some (at + len)
