-- Names are short.
use Rattle.std.proofs.Common.{◌≡◌, ◌≤◌, ℕ, List, length, true, arith}
use Rattle.text_forms.specs.Names.{is_name}

pub name_short : (name : List ℕ) → is_name name ≡ true → length name ≤ 64
name_short name is = grind arith
