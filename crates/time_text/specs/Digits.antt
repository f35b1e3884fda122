-- Decimal digits in ASCII, and texts of a fixed shape.
use Rattle.std.specs.Prelude.{ℕ, ◌+◌, ◌/◌, ◌%◌, ◌++◌, ◌==◌, ◌&&◌, Bool, true, false, List, [], ◌∷◌, if◌then◌else◌}
use Rattle.text_forms.specs.Digits.{is_digit}

-- a digit where the shape has 0, else the shape's own octet
abbrev pub fits_shape : ℕ → ℕ → Bool
fits_shape place octet = if place == 48 then is_digit octet else (octet == place)

-- the text is as long as the shape, and fits it at each place
unfoldable pub has_shape : List ℕ → List ℕ → Bool
has_shape [] [] = true
has_shape [] (octet ∷ text) = false
has_shape (place ∷ shape) [] = false
has_shape (place ∷ shape) (octet ∷ text) = fits_shape place octet && has_shape shape text

-- numbers below 100, 1,000 and 10,000, each with all its digits
abbrev pub two_digits_of : ℕ → List ℕ
two_digits_of n = (48 + n / 10) ∷ (48 + n % 10) ∷ []

-- a number below 1,000 in three digits
abbrev pub three_digits_of : ℕ → List ℕ
three_digits_of n = (48 + n / 100) ∷ two_digits_of (n % 100)

-- a number below 10,000 in four digits
abbrev pub four_digits_of : ℕ → List ℕ
four_digits_of n = two_digits_of (n / 100) ++ two_digits_of (n % 100)
