use Rattle.std.proofs.Common.{◌≡◌, drop}
use Rattle.ssql_parse.specs.Grammar.{comma_before_each, literal_token}
use Rattle.ssql_parse.specs.Printing.{laid}
use Rattle.ssql_parse.proofs.printing.Layout.more_literals.Given as goal

abbrev pub invariant-loop-literal : goal.invariant-loop-literal
invariant-loop-literal l = laid l.self (comma_before_each literal_token (drop l.literal-index l.literals)) ≡ laid l.fn.self (comma_before_each literal_token l.literals)
