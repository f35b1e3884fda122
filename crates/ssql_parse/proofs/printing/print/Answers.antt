use Rattle.std.proofs.Common.{◌≡◌, List, ◌++◌, ap, ◌∙◌}
use Rattle.ssql_parse.specs.declared.statement.Statement.{Statement}
use Rattle.ssql_parse.specs.Printing.{laid, ended_tokens, last_line_end}
use Rattle.ssql_parse.proofs.PrintedParts.{printed_text}
use Rattle.ssql_parse.proofs.printing.print.Goals as goal

pub returns : goal.returns
returns c =
    let statements = c.args.script.now.statements in
    let tokens : c.statements-2.new.self ≡ laid c.new-layout.result (ended_tokens c.args.script.now.statements) =
    c.in_ok-statements.ensures ∙ ap (λ (ss : List Statement). laid c.new-layout.result (ended_tokens ss)) c.statements.ensures.value in
    let octets : c.in_ok-text.text ≡ c.statements-2.new.self.text ++ last_line_end c.args.script.now.statements =
    c.in_ok-text.ensures ∙ c.into_octets-octets.ensures ∙ c.in_ok-last_line_end.ensures ∙ ap (λ (ss : List Statement). c.statements-2.new.self.text ++ last_line_end ss) c.statements-3.ensures.value in
    printed_text c.new-layout.result c.statements-2.new.self statements c.in_ok-text.text c.new-layout.ensures tokens octets
