use Rattle.std.proofs.Common.{ℕ, List, length}
use Rattle.space_packet.specs.Waiting.{IsSplitSoFar}
use Rattle.space_packet.proofs.split.take_packets.Given as goal

abbrev pub invariant-loop-packet : goal.invariant-loop-packet
invariant-loop-packet l = (fed : List ℕ) → IsSplitSoFar fed l.initial.packets l.initial.splitter → IsSplitSoFar fed l.packets l.splitter

abbrev pub decreases-loop-packet : goal.decreases-loop-packet
decreases-loop-packet l = length l.splitter.octets
