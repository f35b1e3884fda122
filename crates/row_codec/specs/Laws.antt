-- What holds of the spellings of rows.
use Rattle.std.specs.Prelude.{◌≡◌, ℕ, List, ◌++◌}
use Rattle.arch_types.specs.declared.row.Row.{Row}
use Rattle.row_codec.specs.Rows.{IsStored}
use Rattle.row_codec.specs.Spelling.{row_octets}

-- no row's spelling begins another's: octets that begin with two are of one row, and what follows it is one
abbrev pub RowSpellingsAreOne : Type 0
RowSpellingsAreOne = (a b : Row) (behind_a behind_b : List ℕ) → IsStored a → IsStored b →
    row_octets a ++ behind_a ≡ row_octets b ++ behind_b → (a ≡ b) × (behind_a ≡ behind_b)
