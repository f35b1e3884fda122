-- Routes: the streams and INSERTs of a script, and the tables that a row reaches by them.
use Rattle.std.specs.Prelude.{◌≡◌, ◌↔◌, ℕ, List, [], ◌∷◌, ◌++◌, length, take, filter_map, Contains, Option, Some, None, true}
use Rattle.std.specs.List.{AllByRecursion}
use Rattle.arch_types.specs.declared.row.Row.{Row}
use Rattle.ssql_conditions.specs.Formulas.{formula_of}
use Rattle.ssql_conditions.specs.Truth.{is_true}
use Rattle.ssql_types.specs.declared.query.TypedFlow.{TypedFlow}
use Rattle.ssql_types.specs.declared.sources.RouteSource.{RouteSource}
use Rattle.ssql_types.specs.declared.sources.RouteSource.TheVariants as src
use Rattle.ssql_types.specs.declared.statement.TypedStatement.{TypedStatement}
use Rattle.ssql_types.specs.declared.statement.TypedStatement.TheVariants as ts
use Rattle.stream_graph.specs.declared.statement.RouteStatement.{RouteStatement}
use Rattle.stream_graph.specs.declared.statement.RouteStatement.TheVariants as rs

-- ---- routes

-- the statement of a route that a statement of a script is, if it is one
abbrev pub route_statement : TypedStatement → Option RouteStatement
route_statement (ts.CreateStream flow) = Some (rs.Stream flow)
route_statement (ts.Insert table flow) = Some (rs.Insert table flow)
route_statement (ts.CreateTable name) = None
route_statement (ts.Select select) = None
route_statement (ts.ShowHistogram table) = None
route_statement (ts.ShowPartitions table) = None

-- the route of a script: its streams and its INSERTs, in their order
abbrev pub route_statements : List TypedStatement → List RouteStatement
route_statements script = filter_map route_statement script

-- the query that passes on every packet of every link: SELECT * FROM tm_in
abbrev pub all_packets : TypedFlow
all_packets = record { sources = src.Packets ∷ []; condition = formula_of [] }

-- the route of a load that is given none: INSERT INTO tm SELECT * FROM tm_in
abbrev pub every_packet_route : List RouteStatement
every_packet_route = rs.Insert 0 all_packets ∷ []

-- ---- which tables a row reaches

-- A source is this stream among those above, the nearest first, and these stand above it. Its number is how many they are.
pub record IsStreamAt (above : List TypedFlow) (source : RouteSource) (stream : TypedFlow) (earlier : List TypedFlow) : Type 0 where
  pub nearer : List TypedFlow
  pub among : above ≡ nearer ++ stream ∷ earlier
  pub number : source ≡ src.Stream (length earlier)

-- A path of streams from `tm_in` to a source, the last stream first: each takes rows from the next, which stands above it.
abbrev pub IsStreamPath : List TypedFlow → RouteSource → List TypedFlow → Type 0
IsStreamPath above source [] = source ≡ src.Packets
IsStreamPath above source (stream ∷ path) =
    (earlier : List TypedFlow) × (next : RouteSource) × IsStreamAt above source stream earlier × Contains stream.sources next × IsStreamPath earlier next path

-- a row meets the conditions of some queries
abbrev pub MeetsAll : Row → List TypedFlow → Type 0
MeetsAll row flows = AllByRecursion (λ flow. is_true row flow.condition ≡ true) flows

-- A query passes a row on, beside the streams above it: the row meets every condition on a path from `tm_in` to one of its sources, and its own.
pub record PassesOn (above : List TypedFlow) (flow : TypedFlow) (row : Row) : Type 0 where
  pub source : RouteSource
  pub path : List TypedFlow
  pub among : Contains flow.sources source
  pub streams : IsStreamPath above source path
  pub met : MeetsAll row (flow ∷ path)

-- the streams above a place, the nearest first: those of the statements before it, and those above these
abbrev pub streams_behind : List TypedFlow → List RouteStatement → List TypedFlow
streams_behind above [] = above
streams_behind above (rs.Stream flow ∷ statements) = streams_behind (flow ∷ above) statements
streams_behind above (rs.Insert table flow ∷ statements) = streams_behind above statements

-- A row reaches a table by statements, beside the streams above them: one is an INSERT that names the table and passes the row on.
pub record ReachesBeside (above : List TypedFlow) (statements : List RouteStatement) (row : Row) (table : ℕ) : Type 0 where
  pub before : List RouteStatement
  pub flow : TypedFlow
  pub later : List RouteStatement
  pub insert : statements ≡ before ++ rs.Insert table flow ∷ later
  pub passes : PassesOn (streams_behind above before) flow row

-- a row reaches a table by a route
abbrev pub Reaches : List RouteStatement → Row → ℕ → Type 0
Reaches route row table = ReachesBeside [] route row table

-- Tables stand in the order of the first INSERTs that reach them: those that are reached up to a place of the route are the first so many.
abbrev pub AreInOrder : List RouteStatement → Row → List ℕ → Type 0
AreInOrder route row tables = (before later : List RouteStatement) → route ≡ before ++ later →
    (count : ℕ) × ((table : ℕ) → Contains (take count tables) table ↔ Reaches before row table)
