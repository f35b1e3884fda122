use Rattle.std.proofs.Common.{◌≡◌, [], drop}
use Rattle.stream_graph.specs.RouteTables.{tables_after}
use Rattle.stream_graph.proofs.passing.tables_of_row.Given as goal

-- what is left adds what all statements add
abbrev pub invariant-loop-statement : goal.invariant-loop-statement
invariant-loop-statement l = tables_after l.row (drop l.statement-index l.statements) l.passed.items l.tables ≡ tables_after l.row l.statements [] []
