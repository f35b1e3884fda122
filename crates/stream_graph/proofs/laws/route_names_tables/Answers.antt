use Rattle.std.proofs.Common.{ℕ, List, [], ◌∷◌}
use Rattle.std.specs.List.{AllByRecursion}
use Rattle.ssql_types.specs.declared.statement.TypedStatement.{TypedStatement}
use Rattle.ssql_types.specs.declared.statement.TypedStatement.TheVariants as ts
use Rattle.ssql_types.specs.Laws.{NamesTables}
use Rattle.stream_graph.specs.Routes.{route_statements}
use Rattle.stream_graph.specs.Laws.{NamesTableBelow}
use Rattle.stream_graph.proofs.laws.route_names_tables.Goals as goal

route_named : (count : ℕ) (script : List TypedStatement) → AllByRecursion (NamesTables count) script → AllByRecursion (NamesTableBelow count) (route_statements script)
route_named count [] named = tt
route_named count (ts.CreateStream flow ∷ script) named = (tt, route_named count script named.1)
route_named count (ts.Insert table flow ∷ script) named = (named.0, route_named count script named.1)
route_named count (ts.CreateTable name ∷ script) named = route_named count script named.1
route_named count (ts.Select select ∷ script) named = route_named count script named.1
route_named count (ts.ShowHistogram table ∷ script) named = route_named count script named.1
route_named count (ts.ShowPartitions table ∷ script) named = route_named count script named.1

pub returns : goal.returns
returns c = route_named
