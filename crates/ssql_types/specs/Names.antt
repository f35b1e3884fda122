-- Which names a statement may use: those of the tables, and those that the statements above it create.
use Rattle.std.specs.Prelude.{ℕ, List, [], ◌∷◌, codes, position, is_some, Option, Bool, ◌||◌}
use Rattle.std.specs.Str.{bytes_eq}
use Rattle.ssql_parse.specs.declared.statement.Statement.{Statement}
use Rattle.ssql_parse.specs.declared.statement.Statement.TheVariants as st

-- the number of a name among names: its place, from 0
abbrev pub number_among : List (List ℕ) → List ℕ → Option ℕ
number_among names name = position (bytes_eq name) names

-- a name is among names
abbrev pub is_known_name : List (List ℕ) → List ℕ → Bool
is_known_name names name = is_some (number_among names name)

-- `tm_in`: the stream of every packet of every link
abbrev pub is_tm_in : List ℕ → Bool
is_tm_in name = bytes_eq name (codes "tm_in")

-- `tm`: the table that each archive has
abbrev pub is_tm : List ℕ → Bool
is_tm name = bytes_eq name (codes "tm")

-- a name that a new table or stream may not have, beside these tables and the names that statements above create
abbrev pub is_name_taken : List (List ℕ) → List (List ℕ) → List ℕ → Bool
is_name_taken tables created name = is_tm_in name || is_known_name tables name || is_known_name created name

-- the name that a statement creates, if it creates one
abbrev pub names_created : Statement → List (List ℕ)
names_created (st.CreateTable name like) = name ∷ []
names_created (st.CreateStream name query) = name ∷ []
names_created (st.Insert table query) = []
names_created (st.Query query) = []
names_created (st.ShowHistogram table) = []
names_created (st.ShowPartitions table) = []
