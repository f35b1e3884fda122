-- Names of tables, parameters, calibrations, containers and packets.
use Rattle.std.specs.Prelude.{ℕ, List, length, Bool, ◌&&◌, ◌||◌, ◌==◌, nat_le}
use Rattle.std.specs.List.{list_all}

-- letters, digits, `_`, `.`, `/` and `-`
abbrev pub is_name_octet : ℕ → Bool
is_name_octet b = (nat_le 97 b && nat_le b 122) || (nat_le 65 b && nat_le b 90) || (nat_le 48 b && nat_le b 57) || (b == 95) || (b == 46) || (b == 47) || (b == 45)

-- a name is 1 to 64 of these octets
abbrev pub is_name : List ℕ → Bool
is_name text = nat_le 1 (length text) && nat_le (length text) 64 && list_all is_name_octet text
