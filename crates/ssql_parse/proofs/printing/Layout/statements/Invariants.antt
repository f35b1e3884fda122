use Rattle.std.proofs.Common.{◌≡◌, drop}
use Rattle.ssql_parse.specs.Printing.{laid, ended_tokens}
use Rattle.ssql_parse.proofs.printing.Layout.statements.Given as goal

abbrev pub invariant-loop-statement : goal.invariant-loop-statement
invariant-loop-statement l = laid l.self (ended_tokens (drop l.statement-index l.statements)) ≡ laid l.fn.self (ended_tokens l.statements)
