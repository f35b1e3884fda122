use Rattle.std.proofs.Common.{◌≡◌, ◌-◌, ◌≤◌, ◌++◌, length, take, drop}
use Rattle.std.specs.List.{concat}
use Rattle.std.specs.VecDeque.Iter.{deque_iter_rest}
use Rattle.space_packet.proofs.splitter.first_octets.Given as goal

abbrev pub invariant-loop-piece : goal.invariant-loop-piece
invariant-loop-piece l = record {
  within : length l.octets.items ≤ l.count;
  octets : l.octets.items ++ take (l.count - length l.octets.items) (drop l.before (concat (deque_iter_rest l.piece-iterator))) ≡
      take l.count (drop l.start (concat l.pieces.items));
}
