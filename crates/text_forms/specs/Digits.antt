-- Numbers of decimal digits.
use Rattle.std.specs.Prelude.{ℕ, ◌+◌, ◌*◌, ◌-◌, ◌&&◌, Bool, List, length, Option, Some, None, if◌then◌else◌, nat_le, fold}
use Rattle.std.specs.List.{list_all}

-- the octet is a decimal digit, 0 to 9 in ASCII
abbrev pub is_digit : ℕ → Bool
is_digit octet = nat_le 48 octet && nat_le octet 57

-- the number that digits spell
abbrev pub decimal_value : List ℕ → ℕ
decimal_value digits = fold (λ n digit. 10 * n + (digit - 48)) 0 digits

-- the number that 1 to `most` digits spell
abbrev pub digits_at_most : ℕ → List ℕ → Option ℕ
digits_at_most most text =
    if nat_le 1 (length text) && nat_le (length text) most && list_all is_digit text then Some (decimal_value text) else None
