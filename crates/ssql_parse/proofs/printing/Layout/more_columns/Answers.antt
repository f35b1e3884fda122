use Rattle.std.proofs.Common.{arith}
use Rattle.ssql_tokens.specs.declared.token.Token.TheVariants as t
use Rattle.ssql_parse.proofs.PrintedParts.{comma_copied, comma_end}
use Rattle.ssql_parse.proofs.printing.Layout.more_columns.Goals as goal

pub loop-column-preserved : goal.loop-column-preserved
loop-column-preserved c =
    comma_copied t.Column c.args.columns.now c.loop-column.self c.symbol.new.self c.column.new.self _ c.loop-column.column-index _ (omega arith) c.loop-column.invariant c.in_ok-symbol.ensures c.in_ok-column.ensures

pub returns : goal.returns
returns c = comma_end t.Column c.args.columns.now c.loop-column.self _ c.loop-column.column-index (omega arith) c.loop-column.invariant
