-- A history: rows in the order in which they came to stay, of which no two have one table and key.
use Rattle.std.specs.Prelude.{◌≡◌, ℕ, List, [], ◌∷◌, ◌++◌, Bool, false, ◌&&◌, ◌==◌, fold, if◌then◌else◌}
use Rattle.std.specs.List.{list_any, AllByRecursion}
use Rattle.std.specs.Ordering.{is_eq}
use Rattle.arch_types.specs.declared.row.Row.{Row}
use Rattle.arch_types.specs.declared.key.Key.{Key}
use Rattle.arch_types.specs.Order.{key_cmp}

-- whether a row is in a table
abbrev pub is_in_table : ℕ → Row → Bool
is_in_table table row = table == row.table

-- whether a row has this key
abbrev pub has_key : Key → Row → Bool
has_key key row = is_eq (key_cmp key row.key)

-- whether a row has the table and the key of another
abbrev pub is_duplicate_of : Row → Row → Bool
is_duplicate_of row other = (row.table == other.table) && is_eq (key_cmp row.key other.key)

-- the rows, and one more where none has its table and key
abbrev pub with_row : List Row → Row → List Row
with_row history row = if list_any (is_duplicate_of row) history then history else history ++ row ∷ []

-- the history followed by those rows, in order, whose table and key aren't in what stands before them
abbrev pub ingested : List Row → List Row → List Row
ingested history rows = fold with_row history rows

-- the first row of each table and key
abbrev pub firsts : List Row → List Row
firsts rows = ingested [] rows

-- no row has the table and key of one before it
abbrev pub IsHistory : List Row → Type 0
IsHistory [] = Unit {0}
IsHistory (row ∷ rows) = AllByRecursion (λ later. is_duplicate_of later row ≡ false) rows × IsHistory rows
