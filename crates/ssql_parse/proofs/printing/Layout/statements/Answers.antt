use Rattle.std.proofs.Common.{sym, arith}
use Rattle.ssql_parse.proofs.PrintedParts.{statements_step, statements_end}
use Rattle.ssql_parse.proofs.printing.Layout.statements.Goals as goal

pub loop-statement-preserved : goal.loop-statement-preserved
loop-statement-preserved c =
    statements_step c.args.statements.now c.loop-statement.self c.statement.new.self c.symbol.new.self _ c.loop-statement.statement-index c.statement-item.result (omega arith) (sym c.statement-item.is) c.loop-statement.invariant c.in_ok-statement.ensures
    c.in_ok-symbol.ensures

pub returns : goal.returns
returns c = statements_end c.args.statements.now c.loop-statement.self _ c.loop-statement.statement-index (omega arith) c.loop-statement.invariant
