use Rattle.std.proofs.Common.{sym, arith}
use Rattle.ssql_parse.proofs.PrintedParts.{pieces_step, pieces_end}
use Rattle.ssql_parse.proofs.printing.Layout.pieces.Goals as goal

pub loop-piece-preserved : goal.loop-piece-preserved
loop-piece-preserved c = pieces_step c.args.pieces.now c.loop-piece.self c.piece.new.self _ c.loop-piece.piece-index c.piece-item.result (omega arith) (sym c.piece-item.is) c.loop-piece.invariant c.in_ok-piece.ensures

pub returns : goal.returns
returns c = pieces_end c.args.pieces.now c.loop-piece.self _ c.loop-piece.piece-index (omega arith) c.loop-piece.invariant
