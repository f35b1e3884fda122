use Rattle.std.proofs.Common.{◌≡◌, drop}
use Rattle.ssql_tokens.specs.declared.token.Token.TheVariants as t
use Rattle.ssql_parse.specs.Grammar.{comma_before_each}
use Rattle.ssql_parse.specs.Printing.{laid}
use Rattle.ssql_parse.proofs.printing.Layout.more_columns.Given as goal

abbrev pub invariant-loop-column : goal.invariant-loop-column
invariant-loop-column l = laid l.self (comma_before_each t.Column (drop l.column-index l.columns)) ≡ laid l.fn.self (comma_before_each t.Column l.columns)
