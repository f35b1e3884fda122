use Rattle.space_packet.specs.Waiting.{IsTaken}
use Rattle.space_packet.proofs.Waiting.{taken_more}
use Rattle.space_packet.proofs.split.take_packets.Goals as goal

pub loop-packet-preserved : goal.loop-packet-preserved
loop-packet-preserved c fed so_far =
    let old = c.loop-packet.splitter in
    let packet = c.in-Ok-Some.packet in
    let taken : IsTaken old packet c.next_packet.new.self = rw c.in-Ok-Some.field-0-is at c.in-Ok-Some.ensures.packet in
    rw c.in_ok-push-in-Ok-Some.ensures.ok (taken_more fed c.loop-packet.packets old packet c.next_packet.new.self (c.loop-packet.invariant fed so_far) taken)
