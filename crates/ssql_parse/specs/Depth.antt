-- How deep conditions are.
use Rattle.std.specs.Prelude.{ℕ, List, [], ◌∷◌, length, drop, max, Option, Some, None, Bool, true, false}
use Rattle.ssql_parse.specs.declared.condition.Piece.{Piece}
use Rattle.ssql_parse.specs.declared.condition.Piece.TheVariants as p
use Rattle.ssql_parse.specs.declared.statement.Statement.{Statement}
use Rattle.ssql_parse.specs.declared.statement.Statement.TheVariants as st

-- ---- Piece by piece. Each NOT (true) and each parenthesis (false) that is open stands in a list, the innermost first.

-- the innermost is a NOT
abbrev pub not_first : List Bool → Bool
not_first [] = false
not_first (is_not ∷ nesting) = is_not

-- a term has ended, and each NOT right before it
abbrev pub ended : List Bool → List Bool
ended [] = []
ended (true ∷ nesting) = ended nesting
ended (false ∷ nesting) = false ∷ nesting

-- a parenthesis has ended, and the term that it is
abbrev pub closed : List Bool → List Bool
closed nesting = ended (drop 1 (ended nesting))

-- what is open behind a piece
abbrev pub nesting_behind : Piece → List Bool → List Bool
nesting_behind p.Not nesting = true ∷ nesting
nesting_behind p.Open nesting = false ∷ nesting
nesting_behind p.Close nesting = closed nesting
nesting_behind p.And nesting = nesting
nesting_behind p.Or nesting = nesting
nesting_behind (p.Predicate x) nesting = ended nesting

-- how many NOT and parentheses are open at a predicate, and 0 at another piece
abbrev pub depth_at : Piece → List Bool → ℕ
depth_at p.Not nesting = 0
depth_at p.Open nesting = 0
depth_at p.Close nesting = 0
depth_at p.And nesting = 0
depth_at p.Or nesting = 0
depth_at (p.Predicate x) nesting = length nesting

-- the greatest number of NOT and parentheses that are open at a predicate
abbrev pub deepest : List Piece → List Bool → ℕ
deepest [] nesting = 0
deepest (piece ∷ pieces) nesting = max (depth_at piece nesting) (deepest pieces (nesting_behind piece nesting))

-- ---- statements

-- of the condition behind WHERE
abbrev pub filter_depth : Option (List Piece) → ℕ
filter_depth None = 0
filter_depth (Some pieces) = deepest pieces []

-- of a statement's condition
abbrev pub statement_depth : Statement → ℕ
statement_depth (st.CreateTable name like) = 0
statement_depth (st.CreateStream name query) = filter_depth query.filter
statement_depth (st.Insert table query) = filter_depth query.filter
statement_depth (st.Query query) = filter_depth query.filter
statement_depth (st.ShowHistogram table) = 0
statement_depth (st.ShowPartitions table) = 0

-- of the deepest statement
abbrev pub script_depth : List Statement → ℕ
script_depth [] = 0
script_depth (statement ∷ statements) = max (statement_depth statement) (script_depth statements)
