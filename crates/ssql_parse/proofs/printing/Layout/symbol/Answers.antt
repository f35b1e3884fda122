use Rattle.std.proofs.Common.{◌≡◌, ◌++◌, ap, ◌∙◌}
use Rattle.ssql_tokens.specs.declared.token.Token.TheVariants as t
use Rattle.ssql_parse.specs.Printing.{Laid, gap_octets, gap_before}
use Rattle.ssql_parse.proofs.PrintedParts.{symbol_laid}
use Rattle.ssql_parse.proofs.printing.Layout.symbol.Goals as goal

pub returns : goal.returns
returns c =
    let gap = ap (λ (u : Laid). u.gap) c.self.view_is in
    let text = ap (λ (u : Laid). u.text) c.self.view_is in
    let before : c.gap_before-before.result ≡ gap_before c.args.self.now.gap (t.Symbol c.args.symbol) = cc (c.gap_before-before.ensures) in
    let mid : c.put_gap.new.self ≡ record { text = c.args.self.now.text ++ gap_octets c.gap_before-before.result; gap = c.args.self.now.gap } = cc (c.in_ok-put_gap.ensures) in
    c.in_ok-put_octets.ensures
    ∙ symbol_laid c.args.self.now c.put_gap.new.self (t.Symbol c.args.symbol) c.gap_before-before.result c.gap_behind.result c.as_bytes.result.now before mid (c.as_bytes.ensures.value ∙ c.text.ensures) c.gap_behind.ensures
