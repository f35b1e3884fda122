use Rattle.std.proofs.Common.{take}
use Rattle.std.specs.List.{concat}
use Rattle.arch_types.specs.Dump.{BeginsWithNoPacket}
use Rattle.space_packet.specs.Waiting.{IsSplitSoFar}
use Rattle.space_packet.proofs.split.split_pieces.Given as goal

abbrev pub invariant-loop-piece : goal.invariant-loop-piece
invariant-loop-piece l = record {
  so_far : IsSplitSoFar (concat (take l.piece-index l.pieces)) l.packets l.splitter;
  none : BeginsWithNoPacket l.splitter.octets;
}
