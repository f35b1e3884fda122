use Rattle.std.proofs.Common.{◌≡◌, [], ◌∷◌, ◌++◌, ◌+◌, take, append-nil, refl}
use Rattle.std.specs.List.{concat}
use Rattle.std.proofs.lemmas.List.{take_more}
use Rattle.std.proofs.lemmas.List.Folds.{concat-append}
use Rattle.space_packet.proofs.Waiting.{fed_more}
use Rattle.space_packet.proofs.split.split_pieces.Goals as goal

pub loop-piece-preserved : goal.loop-piece-preserved
loop-piece-preserved c =
    let pieces = c.args.pieces.now in
    let i = c.loop-piece.piece-index in
    let piece = c.piece-item.result in
    let fed = concat (take i pieces) in
    let more : concat (take (i + 1) pieces) ≡ fed ++ piece =
    rw (take_more pieces i piece c.loop-piece-test.true, ← c.piece-item.is, concat-append (take i pieces) (piece ∷ []), append-nil piece) refl in
    let given = fed_more fed c.loop-piece.packets c.loop-piece.splitter piece c.feed.new.self c.loop-piece.invariant.so_far c.in_ok-feed.ensures.ok in
    record {
      so_far = rw more (c.in_ok-take_packets.ensures.so_far (fed ++ piece) given);
      none = c.in_ok-take_packets.ensures.none;
    }
