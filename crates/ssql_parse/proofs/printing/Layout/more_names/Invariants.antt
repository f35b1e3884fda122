use Rattle.std.proofs.Common.{◌≡◌, drop}
use Rattle.ssql_tokens.specs.declared.token.Token.TheVariants as t
use Rattle.ssql_parse.specs.Grammar.{comma_before_each}
use Rattle.ssql_parse.specs.Printing.{laid}
use Rattle.ssql_parse.proofs.printing.Layout.more_names.Given as goal

abbrev pub invariant-loop-name : goal.invariant-loop-name
invariant-loop-name l = laid l.self (comma_before_each t.Name (drop l.name-index l.names)) ≡ laid l.fn.self (comma_before_each t.Name l.names)
