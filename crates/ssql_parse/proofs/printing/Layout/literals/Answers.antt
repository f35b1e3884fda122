use Rattle.std.proofs.Common.{sym, rules, arith}
use Rattle.std.proofs.lemmas.List.{take_rest}
use Rattle.ssql_parse.specs.Grammar.{literal_token}
use Rattle.ssql_parse.proofs.PrintedParts.{listed_laid}
use Rattle.ssql_parse.proofs.printing.Layout.literals.Goals as goal

pub returns-in_ok-more_literals-in-len1-up : goal.returns-in_ok-more_literals-in-len1-up
returns-in_ok-more_literals-in-len1-up c =
    listed_laid literal_token c.args.self.now c.literal.new.self c.more_literals.new.self c.args.literals.now _ c.first-item.result c.in_ok-more_literals-in-len1-up.ensures c.in_ok-literal-in-len1-up.ensures (sym c.first-item.is) (omega arith) (search (rules, take_rest))
