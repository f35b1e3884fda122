use Rattle.std.proofs.Common.{map}
use Rattle.ssql_types.specs.Faults.{piece_faults, pieces_faults}
use Rattle.ssql_types.specs.Typed.{typed_piece}
use Rattle.ssql_types.proofs.Joined.{hands_on}
use Rattle.ssql_types.proofs.Lists.{item_stops, item_goes_on, items_end}
use Rattle.ssql_types.proofs.condition.typed_pieces.Goals as goal

pub returns-in_err-found : goal.returns-in_err-found
returns-in_err-found c =
    hands_on (λ x. (x.0, x.1.now)) c.from_residual.result _ (pieces_faults c.args.pieces.now) c.args.places.now (map (typed_piece c.args.names.now) c.args.pieces.now) c.from_residual.ensures.1
    (item_stops piece_faults (typed_piece c.args.names.now) c.args.pieces.now c.args.places.now c.loop-piece.typed c.loop-piece.piece-index c.piece-item.result c.loop-piece.rest.now _
    c.loop-piece-test.true c.piece-item.is c.loop-piece.invariant c.in_err-found.ensures)

pub loop-piece-preserved : goal.loop-piece-preserved
loop-piece-preserved c =
    item_goes_on piece_faults (typed_piece c.args.names.now) c.args.pieces.now c.args.places.now c.loop-piece.typed c.loop-piece.piece-index c.piece-item.result c.loop-piece.rest.now
    c.in_ok-found.found c.in_ok-found.later.now _ c.loop-piece-test.true c.piece-item.is c.loop-piece.invariant c.in_ok-found.ensures c.in_ok-push.ensures.ok

pub returns : goal.returns
returns c =
    items_end piece_faults (typed_piece c.args.names.now) c.args.pieces.now c.args.places.now c.loop-piece.typed c.loop-piece.piece-index c.loop-piece.rest.now c.loop-piece-test.false c.loop-piece.invariant
