use Rattle.std.proofs.Common.{drop}
use Rattle.ssql_types.proofs.Statements.{AreStatementsLeft}
use Rattle.ssql_types.proofs.script.typed.Given as goal

abbrev pub invariant-loop-statement : goal.invariant-loop-statement
invariant-loop-statement l = AreStatementsLeft l.place l.tables l.names l.script.statements l.script.places l.typed l.created (drop l.statement-index l.script.statements) l.places
