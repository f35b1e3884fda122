use Rattle.std.proofs.Common.{◌≡◌, ◌+◌, ◌++◌, arith}
use Rattle.std.specs.Prelude.{slice_range}
use Rattle.std.specs.VecDeque.Iter.{deque_iter_rest}
use Rattle.space_packet.proofs.Pieces.{gathered}
use Rattle.space_packet.proofs.splitter.first_octets.Goals as goal

pub loop-piece-preserved : goal.loop-piece-preserved
loop-piece-preserved c =
    let piece = c.in-Some.piece.now in
    let from = c.min-from.result in
    let n = c.min-n.result in
    let put : c.extend_from_slice.new.self.items ≡ c.loop-piece.octets.items ++ slice_range piece from (from + n) =
    rw (← c.as_slice.ensures) c.in_ok-extend_from_slice.ensures.items in
    let both = gathered c.loop-piece.octets.items piece c.extend_from_slice.new.self.items _ (deque_iter_rest c.loop-piece.piece-iterator)
    (deque_iter_rest c.next.new.self) c.loop-piece.before from n c.args.count c.in-Some.ensures.steps c.loop-piece.invariant.within
    (rw (← c.len-in-loop-piece.ensures.value) c.min-from.ensures) (omega arith) c.loop-piece.invariant.octets put in
    record { within = both.0; octets = both.1 }
