use Rattle.std.proofs.Common.{◌≡◌, drop}
use Rattle.ssql_parse.specs.Grammar.{pieces_tokens}
use Rattle.ssql_parse.specs.Printing.{laid}
use Rattle.ssql_parse.proofs.printing.Layout.pieces.Given as goal

abbrev pub invariant-loop-piece : goal.invariant-loop-piece
invariant-loop-piece l = laid l.self (pieces_tokens (drop l.piece-index l.pieces)) ≡ laid l.fn.self (pieces_tokens l.pieces)
