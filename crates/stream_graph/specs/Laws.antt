-- What the definitions come to.
use Rattle.std.specs.Prelude.{◌≡◌, ◌<◌, ◌≤◌, ℕ, List, [], ◌∷◌, length}
use Rattle.std.specs.List.{AllByRecursion}
use Rattle.arch_types.specs.declared.row.Row.{Row}
use Rattle.ssql_types.specs.declared.statement.TypedStatement.{TypedStatement}
use Rattle.ssql_types.specs.Laws.{NamesTables}
use Rattle.stream_graph.specs.declared.statement.RouteStatement.{RouteStatement}
use Rattle.stream_graph.specs.declared.statement.RouteStatement.TheVariants as rs
use Rattle.stream_graph.specs.Routes.{every_packet_route, route_statements}
use Rattle.stream_graph.specs.RouteTables.{route_of}

-- where a load is given no route, each row reaches the table `tm` alone
abbrev pub EveryPacketReachesTm : Type 0
EveryPacketReachesTm = (row : Row) → route_of every_packet_route row ≡ 0 ∷ []

-- a statement names no table from a number on
abbrev pub NamesTableBelow : ℕ → RouteStatement → Type 0
NamesTableBelow count (rs.Stream flow) = Unit {0}
NamesTableBelow count (rs.Insert table flow) = table < count

-- the tables of a row lie below a number, and are no more than that, where the INSERTs of the route name such tables alone
pub record AreTablesBelow (count : ℕ) (tables : List ℕ) : Type 0 where
  pub each : AllByRecursion (λ table. table < count) tables
  pub few : length tables ≤ count

-- the tables that a row reaches are named by the route's INSERTs
abbrev pub TablesAreNamed : Type 0
TablesAreNamed = (count : ℕ) (route : List RouteStatement) (row : Row) → AllByRecursion (NamesTableBelow count) route → AreTablesBelow count (route_of route row)

-- where the statements of a script name tables below a number, the INSERTs of its route do
abbrev pub RouteNamesTables : Type 0
RouteNamesTables = (count : ℕ) (script : List TypedStatement) → AllByRecursion (NamesTables count) script → AllByRecursion (NamesTableBelow count) (route_statements script)
