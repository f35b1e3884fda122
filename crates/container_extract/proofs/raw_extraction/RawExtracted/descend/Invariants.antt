use Rattle.std.proofs.Common.{◌-◌, length}
use Rattle.container_extract.specs.Room.{HasPacketRoom}
use Rattle.container_extract.proofs.Walk.{IsWalk}
use Rattle.container_extract.proofs.raw_extraction.RawExtracted.descend.Given as goal

abbrev pub invariant-down : goal.invariant-down
invariant-down l = record {
  goes : IsWalk l.mdb l.packet l.self.chain.items l.self.values.items l.number;
  room : HasPacketRoom l.self;
}

abbrev pub decreases-down : goal.decreases-down
decreases-down l = length l.mdb.containers - l.number
