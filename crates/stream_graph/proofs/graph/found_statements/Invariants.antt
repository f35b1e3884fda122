use Rattle.std.proofs.Common.{◌≡◌, ◌++◌, drop, filter_map}
use Rattle.stream_graph.specs.Routes.{route_statement}
use Rattle.stream_graph.proofs.graph.found_statements.Given as goal

abbrev pub invariant-loop-statement : goal.invariant-loop-statement
invariant-loop-statement l = (l.statements ++ filter_map route_statement (drop l.statement-index l.script)) ≡ filter_map route_statement l.script
