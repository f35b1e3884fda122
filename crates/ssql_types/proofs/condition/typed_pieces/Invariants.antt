use Rattle.std.proofs.Common.{drop}
use Rattle.ssql_types.specs.Faults.{piece_faults}
use Rattle.ssql_types.specs.Typed.{typed_piece}
use Rattle.ssql_types.proofs.Lists.{IsListLeft}
use Rattle.ssql_types.proofs.condition.typed_pieces.Given as goal

abbrev pub invariant-loop-piece : goal.invariant-loop-piece
invariant-loop-piece l = IsListLeft piece_faults (typed_piece l.names) l.pieces l.fn.places l.typed (drop l.piece-index l.pieces) l.rest
