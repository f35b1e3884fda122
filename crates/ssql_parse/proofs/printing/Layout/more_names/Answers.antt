use Rattle.std.proofs.Common.{sym, arith}
use Rattle.ssql_tokens.specs.declared.token.Token.TheVariants as t
use Rattle.ssql_parse.proofs.PrintedParts.{comma_step, comma_end}
use Rattle.ssql_parse.proofs.printing.Layout.more_names.Goals as goal

pub loop-name-preserved : goal.loop-name-preserved
loop-name-preserved c = comma_step t.Name c.args.names.now c.loop-name.self c.symbol.new.self c.name.new.self _ c.loop-name.name-index c.name-item.result (omega arith) (sym c.name-item.is) c.loop-name.invariant c.in_ok-symbol.ensures c.in_ok-name.ensures

pub returns : goal.returns
returns c = comma_end t.Name c.args.names.now c.loop-name.self _ c.loop-name.name-index (omega arith) c.loop-name.invariant
