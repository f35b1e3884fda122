use Rattle.std.proofs.Common.{◌≡◌, ◌≤◌, length, take, ◌∙◌, arith}
use Rattle.arch_types.specs.Packet.{packet_length}
use Rattle.space_packet.proofs.Waiting.{packet_of_header, first_joined}
use Rattle.space_packet.proofs.splitter.Splitter.joined_packet.Goals as goal

pub returns-clause-packet : goal.returns-clause-packet
returns-clause-packet c =
    let octets = c.args.self.now.octets in
    let n = c.total_length-length.result in
    let is : n ≡ packet_length (take 7 octets) = rw (← c.self.view_is, ← c.in_ok-first_octets.ensures, ← c.deref.ensures.value) c.total_length-length.ensures.value in
    let packet : c.in_ok-from_vec.field-0 ≡ take n octets = c.in_ok-from_vec.ensures ∙ rw (← c.self.view_is) c.in_ok-packet.ensures in
    let count = c.self.invariant.count in
    let some : 7 ≤ length octets = rw (← c.self.view_is) (omega arith) in
    let all : n ≤ length octets = rw (← c.self.view_is) (omega arith) in
    first_joined octets n c.in_ok-from_vec.field-0 (packet_of_header octets n c.requires some is all) packet
