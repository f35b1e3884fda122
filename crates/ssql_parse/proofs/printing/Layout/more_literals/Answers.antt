use Rattle.std.proofs.Common.{sym, arith}
use Rattle.ssql_parse.specs.Grammar.{literal_token}
use Rattle.ssql_parse.proofs.PrintedParts.{comma_step, comma_end}
use Rattle.ssql_parse.proofs.printing.Layout.more_literals.Goals as goal

pub loop-literal-preserved : goal.loop-literal-preserved
loop-literal-preserved c = comma_step literal_token c.args.literals.now c.loop-literal.self c.symbol.new.self c.literal.new.self _ c.loop-literal.literal-index c.literal-item.result (omega arith) (sym c.literal-item.is) c.loop-literal.invariant c.in_ok-symbol.ensures c.in_ok-literal.ensures

pub returns : goal.returns
returns c = comma_end literal_token c.args.literals.now c.loop-literal.self _ c.loop-literal.literal-index (omega arith) c.loop-literal.invariant
