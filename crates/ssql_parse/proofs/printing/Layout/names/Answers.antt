use Rattle.std.proofs.Common.{sym, rules, arith}
use Rattle.std.proofs.lemmas.List.{take_rest}
use Rattle.ssql_tokens.specs.declared.token.Token.TheVariants as t
use Rattle.ssql_parse.proofs.PrintedParts.{listed_laid}
use Rattle.ssql_parse.proofs.printing.Layout.names.Goals as goal

pub returns-in_ok-more_names-in-len1-up : goal.returns-in_ok-more_names-in-len1-up
returns-in_ok-more_names-in-len1-up c =
    listed_laid t.Name c.args.self.now c.name.new.self c.more_names.new.self c.args.names.now _ c.first-item.result c.in_ok-more_names-in-len1-up.ensures c.in_ok-name-in-len1-up.ensures (sym c.first-item.is) (omega arith) (search (rules, take_rest))
