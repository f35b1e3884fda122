use Rattle.std.proofs.Common.{List, sym, ap, ◌∙◌, rules, arith}
use Rattle.std.proofs.lemmas.List.{take_rest}
use Rattle.ssql_tokens.specs.declared.token.Token.TheVariants as t
use Rattle.ssql_tokens.specs.declared.symbols.Column.{Column}
use Rattle.ssql_parse.specs.declared.query.Columns.{Columns}
use Rattle.ssql_parse.specs.Grammar.{with_commas, columns_tokens}
use Rattle.ssql_parse.specs.Printing.{laid}
use Rattle.ssql_parse.proofs.PrintedParts.{listed_copied}
use Rattle.ssql_parse.proofs.printing.Layout.columns.Goals as goal

pub returns-in_ok-more_columns-in-len1-up : goal.returns-in_ok-more_columns-in-len1-up
returns-in_ok-more_columns-in-len1-up c =
    listed_copied t.Column c.args.self.now c.column.new.self c.more_columns.new.self c.as_slice.result.now _ _ c.in_ok-more_columns-in-len1-up.ensures c.in_ok-column-in-len1-up.ensures (omega arith) (search (rules, take_rest))
    ∙ ap (λ (xs : List Column). laid c.args.self.now (with_commas t.Column xs)) c.as_slice.ensures ∙ ap (λ (u : Columns). laid c.args.self.now (columns_tokens u)) (sym c.in-Listed.is)
