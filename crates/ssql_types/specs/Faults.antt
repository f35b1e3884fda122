-- What is wrong with which token of a script. Each function gives a fault or none for each token of a part, in the order in which they
-- are written; ssql_parse's specs/Grammar.antt gives the tokens of the same parts. No rule speaks of the tokens with `no_fault`.
use Rattle.std.specs.Prelude.{ℕ, List, [], ◌∷◌, ◌++◌, flat_map, is_some, Option, Some, None, Bool, true, false, ◌||◌, if◌then◌else◌}
use Rattle.ssql_parse.specs.declared.condition.Literal.{Literal}
use Rattle.ssql_parse.specs.declared.condition.Test.{Test}
use Rattle.ssql_parse.specs.declared.condition.Test.TheVariants as a
use Rattle.ssql_parse.specs.declared.condition.Predicate.{Predicate}
use Rattle.ssql_parse.specs.declared.condition.Piece.{Piece}
use Rattle.ssql_parse.specs.declared.condition.Piece.TheVariants as p
use Rattle.ssql_parse.specs.declared.query.Columns.{Columns}
use Rattle.ssql_parse.specs.declared.query.Columns.TheVariants.{All, Listed}
use Rattle.ssql_parse.specs.declared.query.QuerySource.{QuerySource}
use Rattle.ssql_parse.specs.declared.query.QuerySource.TheVariants.{One, Merge}
use Rattle.arch_types.specs.declared.direction.Direction.{Direction}
use Rattle.ssql_parse.specs.declared.query.Query.{Query}
use Rattle.ssql_parse.specs.declared.statement.Statement.{Statement}
use Rattle.ssql_parse.specs.declared.statement.Statement.TheVariants as st
use Rattle.ssql_types.specs.declared.place.ScriptPlace.{ScriptPlace}
use Rattle.ssql_types.specs.declared.place.ScriptPlace.TheVariants.{Create, Route, Sql}
use Rattle.ssql_types.specs.declared.rules.Rule.TheVariants.{Misplaced, NameTaken, UnknownStream, WrongForm, OutOfRange}
use Rattle.ssql_types.specs.declared.columns.ColumnKind.{ColumnKind}
use Rattle.ssql_types.specs.Rules.{TokenFault, broken, unknown, no_fault, if_broken}
use Rattle.ssql_types.specs.Literals.{script_count}
use Rattle.ssql_types.specs.Columns.{column_kind, column_rule, operator_rule, literal_rule}
use Rattle.ssql_types.specs.Names.{is_known_name, is_tm, is_tm_in, is_name_taken, names_created}

-- ---- single tokens

-- the statements that may stand in a script: CREATE TABLE in `create`, CREATE STREAM and INSERT in a route, queries and SHOW in `query`
abbrev pub may_stand : ScriptPlace → Statement → Bool
may_stand Create (st.CreateTable name like) = true
may_stand Route (st.CreateStream name query) = true
may_stand Route (st.Insert table query) = true
may_stand Sql (st.Query query) = true
may_stand Sql (st.ShowHistogram table) = true
may_stand Sql (st.ShowPartitions table) = true
may_stand _ _ = false

-- the first word of a statement
abbrev pub statement_fault : ScriptPlace → Statement → TokenFault
statement_fault place statement = if may_stand place statement then no_fault else Some (broken Misplaced)

-- the name behind TABLE or STREAM
abbrev pub created_fault : List (List ℕ) → List (List ℕ) → List ℕ → TokenFault
created_fault tables created name = if is_name_taken tables created name then Some (broken NameTaken) else no_fault

-- the name behind LIKE
abbrev pub like_fault : List ℕ → TokenFault
like_fault name = if is_tm name then no_fault else Some (broken WrongForm)

-- the name of a table: behind INTO, HISTOGRAM and PARTITIONS, and where rows are taken from tables
abbrev pub table_fault : List (List ℕ) → List ℕ → TokenFault
table_fault tables name = if is_known_name tables name then no_fault else Some (unknown name)

-- the name of a stream, where a route takes rows from streams
abbrev pub stream_fault : List (List ℕ) → List ℕ → TokenFault
stream_fault created name = if is_tm_in name || is_known_name created name then no_fault else Some (broken UnknownStream)

-- a column, ORDER and LIMIT in a route
abbrev pub form_fault : TokenFault
form_fault = Some (broken WrongForm)

-- the number behind LIMIT
abbrev pub limit_fault : List ℕ → TokenFault
limit_fault text = if is_some (script_count text) then no_fault else Some (broken OutOfRange)

-- ---- lists

-- a token for each of some values, and behind each the comma or the sign that ends the list
abbrev pub listed_faults : {A : Type 0} → (A → TokenFault) → List A → List TokenFault
listed_faults fault xs = flat_map (λ x. fault x ∷ no_fault ∷ []) xs

-- ---- conditions

-- a literal
abbrev pub literal_fault : ColumnKind → Literal → TokenFault
literal_fault kind literal = if_broken (literal_rule kind literal)

-- an operator and a literal, or IN, `(` and literals with `)` behind the last
abbrev pub test_faults : ColumnKind → Test → List TokenFault
test_faults kind (a.Compare operator literal) = if_broken (operator_rule kind operator) ∷ literal_fault kind literal ∷ []
test_faults kind (a.In literals) = no_fault ∷ no_fault ∷ listed_faults (literal_fault kind) literals

-- a column and how it is compared
abbrev pub predicate_faults : Predicate → List TokenFault
predicate_faults predicate = if_broken (column_rule (column_kind predicate.column)) ∷ test_faults (column_kind predicate.column) predicate.test

-- a piece of a condition
abbrev pub piece_faults : Piece → List TokenFault
piece_faults p.Not = no_fault ∷ []
piece_faults p.Open = no_fault ∷ []
piece_faults p.Close = no_fault ∷ []
piece_faults p.And = no_fault ∷ []
piece_faults p.Or = no_fault ∷ []
piece_faults (p.Predicate predicate) = predicate_faults predicate

-- a condition
abbrev pub pieces_faults : List Piece → List TokenFault
pieces_faults pieces = flat_map piece_faults pieces

-- ---- queries

-- the columns, of which each listed one has this fault, and FROM behind the last
abbrev pub columns_faults : TokenFault → Columns → List TokenFault
columns_faults fault All = no_fault ∷ no_fault ∷ []
columns_faults fault (Listed columns) = listed_faults (λ column. fault) columns

-- a name, which has this fault; or MERGE, `(` and names with `)` behind the last
abbrev pub source_faults : (List ℕ → TokenFault) → QuerySource → List TokenFault
source_faults fault (One name) = fault name ∷ []
source_faults fault (Merge names) = no_fault ∷ no_fault ∷ listed_faults fault names

-- WHERE and a condition, where they are written
abbrev pub filter_faults : Option (List Piece) → List TokenFault
filter_faults None = []
filter_faults (Some pieces) = no_fault ∷ pieces_faults pieces

-- ORDER, which has this fault, and a direction
abbrev pub order_faults : TokenFault → Option Direction → List TokenFault
order_faults fault None = []
order_faults fault (Some direction) = fault ∷ no_fault ∷ []

-- LIMIT, which has this fault, and a number
abbrev pub limit_faults : TokenFault → Option (List ℕ) → List TokenFault
limit_faults fault None = []
limit_faults fault (Some text) = fault ∷ limit_fault text ∷ []

-- a query behind SELECT: the faults of each listed column, ORDER and LIMIT, and those of its source's names
abbrev pub query_faults : TokenFault → (List ℕ → TokenFault) → Query → List TokenFault
query_faults form name query =
    columns_faults form query.columns ++ (source_faults name query.source
    ++ (filter_faults query.filter ++ (order_faults form query.order ++ limit_faults form query.limit)))

-- the query of a stream or an INSERT: it has all columns of streams above, in no order and without a limit
abbrev pub flow_faults : List (List ℕ) → Query → List TokenFault
flow_faults created query = no_fault ∷ query_faults form_fault (stream_fault created) query

-- ---- statements

-- a statement in a script of a place, beside these tables and the names that statements above create
abbrev pub statement_faults : ScriptPlace → List (List ℕ) → List (List ℕ) → Statement → List TokenFault
statement_faults place tables created (st.CreateTable name like) =
    statement_fault place (st.CreateTable name like) ∷ no_fault ∷ created_fault tables created name ∷ no_fault ∷ like_fault like ∷ []
statement_faults place tables created (st.CreateStream name query) =
    statement_fault place (st.CreateStream name query) ∷ no_fault ∷ created_fault tables created name ∷ no_fault ∷ flow_faults created query
statement_faults place tables created (st.Insert table query) =
    statement_fault place (st.Insert table query) ∷ no_fault ∷ table_fault tables table ∷ flow_faults created query
statement_faults place tables created (st.Query query) =
    statement_fault place (st.Query query) ∷ query_faults no_fault (table_fault tables) query
statement_faults place tables created (st.ShowHistogram table) =
    statement_fault place (st.ShowHistogram table) ∷ no_fault ∷ table_fault tables table ∷ []
statement_faults place tables created (st.ShowPartitions table) =
    statement_fault place (st.ShowPartitions table) ∷ no_fault ∷ table_fault tables table ∷ []

-- a script of a place, with a `;` behind each statement, beside these tables and the names that were created before it
abbrev pub script_faults : ScriptPlace → List (List ℕ) → List (List ℕ) → List Statement → List TokenFault
script_faults place tables created [] = []
script_faults place tables created (statement ∷ statements) =
    statement_faults place tables created statement ++ no_fault ∷ script_faults place tables (created ++ names_created statement) statements
