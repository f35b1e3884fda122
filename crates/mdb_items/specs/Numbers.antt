-- The ranges of numbers.
use Rattle.std.specs.Prelude.{Bool, false, not, ◌&&◌, List, Option, Some, None, nat_lt, ℤ, pos, negsuc, int_lt, unsigned_abs}
use Rattle.std.specs.List.{list_any}
use Rattle.std.specs.Ordering.{int_eq}

-- the number stands among the numbers
abbrev pub has_number : ℤ → List ℤ → Bool
has_number x xs = list_any (int_eq x) xs

-- from -2^63 to 2^64 - 1
abbrev pub is_in_range : ℤ → Bool
is_in_range x = not (int_lt x (negsuc 9223372036854775807)) && not (int_lt (pos 18446744073709551615) x)

-- a whole number that is in range
abbrev pub is_whole_number : Option ℤ → Bool
is_whole_number None = false
is_whole_number (Some x) = is_in_range x

-- twelve digits before the point and six after it
abbrev pub is_decimal : Option ℤ → Bool
is_decimal None = false
is_decimal (Some millionths) = nat_lt (unsigned_abs millionths) 1000000000000000000
