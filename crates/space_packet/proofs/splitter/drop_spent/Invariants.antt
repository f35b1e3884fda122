use Rattle.std.proofs.Common.{◌≡◌, ◌≤◌, length, drop}
use Rattle.std.specs.List.{concat}
use Rattle.space_packet.proofs.splitter.drop_spent.Given as goal

abbrev pub invariant-loop-piece : goal.invariant-loop-piece
invariant-loop-piece l = record {
  within : l.place ≤ length (concat l.pieces.items);
  octets : drop l.place (concat l.pieces.items) ≡ drop l.fn.start (concat l.fn.pieces.items);
}

abbrev pub decreases-loop-piece : goal.decreases-loop-piece
decreases-loop-piece l = l.pieces.len
