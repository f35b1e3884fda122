-- The tables that a row reaches, as a list.
use Rattle.std.specs.Prelude.{ℕ, List, [], ◌∷◌, ◌++◌, ◌==◌, length, fold, nat_eq, slice_get, unwrap_or, Bool, true, false, ◌&&◌, if◌then◌else◌}
use Rattle.std.specs.List.{list_any}
use Rattle.arch_types.specs.declared.row.Row.{Row}
use Rattle.ssql_conditions.specs.Truth.{is_true}
use Rattle.ssql_types.specs.declared.query.TypedFlow.{TypedFlow}
use Rattle.ssql_types.specs.declared.sources.RouteSource.{RouteSource}
use Rattle.ssql_types.specs.declared.sources.RouteSource.TheVariants as src
use Rattle.stream_graph.specs.declared.statement.RouteStatement.{RouteStatement}
use Rattle.stream_graph.specs.declared.statement.RouteStatement.TheVariants as rs

-- a source gives a row, where it is known which streams pass it on
abbrev pub is_given_by : (ℕ → Bool) → RouteSource → Bool
is_given_by streams src.Packets = true
is_given_by streams (src.Stream number) = streams number

-- a query passes a row on, where it is known which streams do
abbrev pub flow_passes_on : (ℕ → Bool) → Row → TypedFlow → Bool
flow_passes_on streams row flow = is_true row flow.condition && list_any (is_given_by streams) flow.sources

-- the stream of a number passes a row on, among those above, the nearest first
abbrev pub stream_passes_on : Row → List TypedFlow → ℕ → Bool
stream_passes_on row [] number = false
stream_passes_on row (stream ∷ above) number =
    if number == length above then flow_passes_on (λ n. stream_passes_on row above n) row stream else stream_passes_on row above number

-- the tables of the INSERTs that pass a row on, in the order of these, beside the streams above
abbrev pub tables_reached : Row → List TypedFlow → List RouteStatement → List ℕ
tables_reached row above [] = []
tables_reached row above (rs.Stream flow ∷ statements) = tables_reached row (flow ∷ above) statements
tables_reached row above (rs.Insert table flow ∷ statements) =
    (if flow_passes_on (λ n. stream_passes_on row above n) row flow then table ∷ [] else []) ++ tables_reached row above statements

-- tables, and one more where it isn't among them
abbrev pub with_table : List ℕ → ℕ → List ℕ
with_table tables table = if list_any (nat_eq table) tables then tables else tables ++ table ∷ []

-- the tables that a row reaches by a route, each once, in the order of the first INSERTs that reach them
abbrev pub route_of : List RouteStatement → Row → List ℕ
route_of route row = fold with_table [] (tables_reached row [] route)

-- ---- the same as the code goes, statement by statement, with a note of each stream so far

-- the stream of a number passes a row on, by what is noted of each
abbrev pub has_passed : List Bool → ℕ → Bool
has_passed passed number = unwrap_or (slice_get passed number) false

-- what is noted behind a statement
abbrev pub passed_behind : Row → RouteStatement → List Bool → List Bool
passed_behind row (rs.Stream flow) passed = passed ++ flow_passes_on (has_passed passed) row flow ∷ []
passed_behind row (rs.Insert table flow) passed = passed

-- the tables behind a statement
abbrev pub tables_behind : Row → RouteStatement → List Bool → List ℕ → List ℕ
tables_behind row (rs.Stream flow) passed tables = tables
tables_behind row (rs.Insert table flow) passed tables = if flow_passes_on (has_passed passed) row flow then with_table tables table else tables

-- the tables behind some statements
abbrev pub tables_after : Row → List RouteStatement → List Bool → List ℕ → List ℕ
tables_after row [] passed tables = tables
tables_after row (statement ∷ statements) passed tables =
    tables_after row statements (passed_behind row statement passed) (tables_behind row statement passed tables)
