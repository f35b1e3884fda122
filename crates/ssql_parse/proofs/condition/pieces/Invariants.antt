use Rattle.std.proofs.Common.{length}
use Rattle.ssql_parse.specs.Pieces.{IsRead}
use Rattle.ssql_parse.proofs.condition.pieces.Given as goal

abbrev pub invariant-pieces : goal.invariant-pieces
invariant-pieces l = IsRead l.fn.tokens l.pieces l.place.before l.place.opened l.rest

abbrev pub decreases-pieces : goal.decreases-pieces
decreases-pieces l = length l.rest
