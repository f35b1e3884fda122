use Rattle.std.proofs.Common.{◌++◌, ℕ, List, ◌<◌, length, sym, ap, ◌∙◌, append_assoc, arith}
use Rattle.varints.proofs.Varints.{varint-small, varint-large}
use Rattle.packed_cells.proofs.Room.{room_for_one}
use Rattle.packed_cells.proofs.writing.put_wide.Goals as goal

pub push_reserved-requires : goal.push_reserved-requires
push_reserved-requires c =
    let one : length c.loop-rest.out.items < c.args.out.now.cap =
    room_for_one c.args.out.now.items c.loop-rest.out.items c.args.n c.loop-rest.rest c.args.out.now.cap c.loop-rest.invariant.octets c.requires in
    omega arith

pub loop-rest-preserved : goal.loop-rest-preserved
loop-rest-preserved c =
    let n = c.loop-rest.rest in
    let out = c.loop-rest.out.items in
    record {
      octets = rw (c.push_reserved.ensures.items, append_assoc) (ap (λ (w : List ℕ). out ++ w) (sym (varint-large n c.loop-rest-test.true)) ∙ c.loop-rest.invariant.octets);
      room = c.push_reserved.ensures.capacity ∙ c.loop-rest.invariant.room;
    }

pub push_reserved-requires-2 : goal.push_reserved-requires-2
push_reserved-requires-2 c =
    let one : length c.loop-rest.out.items < c.args.out.now.cap =
    room_for_one c.args.out.now.items c.loop-rest.out.items c.args.n c.loop-rest.rest c.args.out.now.cap c.loop-rest.invariant.octets c.requires in
    omega arith

pub returns-clause-octets : goal.returns-clause-octets
returns-clause-octets c =
    let n = c.loop-rest.rest in
    let small : n < 128 = omega arith in
    rw (c.push_reserved-2.ensures.items) (ap (λ (w : List ℕ). c.loop-rest.out.items ++ w) (sym (varint-small n small)) ∙ c.loop-rest.invariant.octets)
