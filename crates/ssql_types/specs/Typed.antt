-- What a script stands for in which nothing is wrong: its columns, tables, streams and packet names by number, its literals by value.
use Rattle.std.specs.Prelude.{ℕ, List, [], ◌∷◌, ◌++◌, map, Option, option_map, unwrap_or, if◌then◌else◌}
use Rattle.ssql_tokens.specs.declared.symbols.Column.{Column}
use Rattle.ssql_tokens.specs.declared.symbols.Column.TheVariants as col
use Rattle.ssql_parse.specs.declared.condition.Test.{Test}
use Rattle.ssql_parse.specs.declared.condition.Test.TheVariants as a
use Rattle.ssql_parse.specs.declared.condition.Predicate.{Predicate}
use Rattle.ssql_parse.specs.declared.condition.Piece.{Piece}
use Rattle.ssql_parse.specs.declared.condition.Piece.TheVariants as p
use Rattle.ssql_parse.specs.declared.query.Columns.{Columns}
use Rattle.ssql_parse.specs.declared.query.Columns.TheVariants.{All, Listed}
use Rattle.ssql_parse.specs.declared.query.QuerySource.{QuerySource}
use Rattle.ssql_parse.specs.declared.query.QuerySource.TheVariants.{One, Merge}
use Rattle.arch_types.specs.declared.direction.Direction.TheVariants.{Ascending}
use Rattle.ssql_parse.specs.declared.query.Query.{Query}
use Rattle.ssql_parse.specs.declared.statement.Statement.{Statement}
use Rattle.ssql_parse.specs.declared.statement.Statement.TheVariants as st
use Rattle.ssql_types.specs.declared.columns.ColumnKind.{ColumnKind}
use Rattle.ssql_types.specs.declared.columns.ColumnKind.TheVariants as k
use Rattle.ssql_conditions.specs.declared.predicate.NumberTest.{NumberTest}
use Rattle.ssql_conditions.specs.declared.predicate.NumberTest.TheVariants as nt
use Rattle.ssql_conditions.specs.declared.predicate.NameTest.{NameTest}
use Rattle.ssql_conditions.specs.declared.predicate.NameTest.TheVariants.{Is, IsNot, In}
use Rattle.ssql_conditions.specs.declared.predicate.TypedPredicate.{TypedPredicate}
use Rattle.ssql_conditions.specs.declared.predicate.TypedPredicate.TheVariants.{Number, Pname}
use Rattle.ssql_conditions.specs.declared.condition.TypedPiece.{TypedPiece}
use Rattle.ssql_conditions.specs.declared.condition.TypedPiece.TheVariants as tp
use Rattle.ssql_types.specs.declared.sources.RouteSource.{RouteSource}
use Rattle.ssql_types.specs.declared.sources.RouteSource.TheVariants.{Packets, Stream}
use Rattle.ssql_types.specs.declared.query.TypedSelect.{TypedSelect}
use Rattle.ssql_types.specs.declared.query.TypedFlow.{TypedFlow}
use Rattle.ssql_types.specs.declared.statement.TypedStatement.{TypedStatement}
use Rattle.ssql_types.specs.declared.statement.TypedStatement.TheVariants as ts
use Rattle.ssql_types.specs.Literals.{literal_number, literal_name, script_count}
use Rattle.ssql_types.specs.Columns.{column_kind, is_equality}
use Rattle.ssql_types.specs.Names.{number_among, is_tm_in, names_created}
use Rattle.ssql_conditions.specs.Formulas.{Formula, formula_of}

-- ---- conditions

-- how a number is tested
abbrev pub number_test : Test → NumberTest
number_test (a.Compare operator literal) = nt.Compare operator (literal_number literal)
number_test (a.In literals) = nt.In (map literal_number literals)

-- how a packet name is tested, beside the packet names of an archive
abbrev pub name_test : List (List ℕ) → Test → NameTest
name_test names (a.Compare operator literal) = if is_equality operator then Is (literal_name names literal) else IsNot (literal_name names literal)
name_test names (a.In literals) = In (map (literal_name names) literals)

-- a predicate over a column of a kind; over a packet it is of no account: its column is refused
abbrev pub predicate_over : List (List ℕ) → ColumnKind → Test → TypedPredicate
predicate_over names (k.Number column) test = Number column (number_test test)
predicate_over names k.Pname test = Pname (name_test names test)
predicate_over names k.Packet test = Pname (name_test names test)

-- a predicate
abbrev pub typed_predicate : List (List ℕ) → Predicate → TypedPredicate
typed_predicate names predicate = predicate_over names (column_kind predicate.column) predicate.test

-- a piece of a condition
abbrev pub typed_piece : List (List ℕ) → Piece → TypedPiece
typed_piece names p.Not = tp.Not
typed_piece names p.Open = tp.Open
typed_piece names p.Close = tp.Close
typed_piece names p.And = tp.And
typed_piece names p.Or = tp.Or
typed_piece names (p.Predicate predicate) = tp.Predicate (typed_predicate names predicate)

-- the pieces behind WHERE, where it is written
abbrev pub filter_pieces : Option (List Piece) → List Piece
filter_pieces filter = unwrap_or filter []

-- the condition of a query; where there is no WHERE it has no piece, and each row meets it
abbrev pub typed_filter : List (List ℕ) → Option (List Piece) → Formula
typed_filter names filter = formula_of (map (typed_piece names) (filter_pieces filter))

-- ---- queries

-- the columns of an answer; `*` is all eight in their order
abbrev pub selected_columns : Columns → List Column
selected_columns All = col.Gentime ∷ col.SeqNum ∷ col.Rectime ∷ col.Link ∷ col.Pname ∷ col.Apid ∷ col.Length ∷ col.Packet ∷ []
selected_columns (Listed columns) = columns

-- the names of a source, in their order
abbrev pub source_names : QuerySource → List (List ℕ)
source_names (One name) = name ∷ []
source_names (Merge names) = names

-- the number of a table or of a stream
abbrev pub known_number : List (List ℕ) → List ℕ → ℕ
known_number names name = unwrap_or (number_among names name) 0

-- a stream of a route by number, or every packet
abbrev pub route_source : List (List ℕ) → List ℕ → RouteSource
route_source created name = if is_tm_in name then Packets else Stream (known_number created name)

-- a query of tables
abbrev pub typed_select : List (List ℕ) → List (List ℕ) → Query → TypedSelect
typed_select tables names query = record {
  columns = selected_columns query.columns;
  sources = map (known_number tables) (source_names query.source);
  condition = typed_filter names query.filter;
  direction = unwrap_or query.order Ascending;
  limit = option_map (λ text. unwrap_or (script_count text) 0) query.limit;
}

-- a query of a route
abbrev pub typed_flow : List (List ℕ) → List (List ℕ) → Query → TypedFlow
typed_flow created names query = record {
  sources = map (route_source created) (source_names query.source);
  condition = typed_filter names query.filter;
}

-- ---- statements

-- a statement, beside tables, packet names, and the names that statements above create
abbrev pub typed_statement : List (List ℕ) → List (List ℕ) → List (List ℕ) → Statement → TypedStatement
typed_statement tables names created (st.CreateTable name like) = ts.CreateTable name
typed_statement tables names created (st.CreateStream name query) = ts.CreateStream (typed_flow created names query)
typed_statement tables names created (st.Insert table query) = ts.Insert (known_number tables table) (typed_flow created names query)
typed_statement tables names created (st.Query query) = ts.Select (typed_select tables names query)
typed_statement tables names created (st.ShowHistogram table) = ts.ShowHistogram (known_number tables table)
typed_statement tables names created (st.ShowPartitions table) = ts.ShowPartitions (known_number tables table)

-- a script, statement by statement
abbrev pub typed_script : List (List ℕ) → List (List ℕ) → List (List ℕ) → List Statement → List TypedStatement
typed_script tables names created [] = []
typed_script tables names created (statement ∷ statements) =
    typed_statement tables names created statement ∷ typed_script tables names (created ++ names_created statement) statements
