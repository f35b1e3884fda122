use Rattle.std.proofs.Common.{◌≡◌, ◌<◌, ◌∷◌, length, take, drop, refl, ap, sym, arith}
use Rattle.arch_types.specs.Packet.{IsPacket}
use Rattle.space_packet.specs.Waiting.{Waiting}
use Rattle.space_packet.proofs.Pieces.{first_and_more}
use Rattle.space_packet.proofs.Waiting.{first_in_piece}
use Rattle.space_packet.proofs.splitter.Splitter.front_packet.Goals as goal

pub returns-in-Ok-clause-packet : goal.returns-in-Ok-clause-packet
returns-in-Ok-clause-packet c =
    let s = c.self.inside in
    let piece = c.in-Some.piece.now in
    let some : 0 < length s.pieces.items = omega (arith, c.in-Some.ensures.variant.0 refl) in
    let e : s.pieces.items ≡ piece ∷ drop 1 s.pieces.items = first_and_more s.pieces.items piece some c.in-Some.ensures.lookup in
    let whole : IsPacket (take c.in-Ok.length (drop s.start piece)) = rw (← c.as_slice.ensures, ← c.split_at.ensures.back) c.in-Ok.ensures.packet.1 in
    let is = ap (λ (w : Waiting). w.octets) (sym c.self.view_is) in
    first_in_piece s.pieces.items piece (drop 1 s.pieces.items) s.start c.in-Ok.length c.in_ok-slice.field-0 c.args.self.now.octets e c.self.invariant.first is c.in_ok-slice.ensures whole
