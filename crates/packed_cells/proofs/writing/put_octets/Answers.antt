use Rattle.std.proofs.Common.{◌≡◌, ◌∙◌, ◌+◌, length, take, ap, arith}
use Rattle.std.proofs.lemmas.List.{length-append, length-take}
use Rattle.packed_cells.proofs.writing.put_octets.Goals as goal

pub push_reserved-requires : goal.push_reserved-requires
push_reserved-requires c =
    let done = c.loop-octet.octet-index in
    let octets = c.args.octets.now in
    let long : length c.loop-octet.out.items ≡ length c.args.out.now.items + length (take done octets) =
    ap length c.loop-octet.invariant.octets ∙ length-append c.args.out.now.items (take done octets) in
    omega (arith, length-take done octets)
