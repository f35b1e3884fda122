use Rattle.std.proofs.Common.{◌≡◌, ◌∙◌, refl, sym, subst, arith}
use Rattle.std.proofs.lemmas.Result.{err_from_is_err_and}
use Rattle.dump_pieces.specs.Reading.{IsDumpRead, Reading, end_of_reading}
use Rattle.dump_pieces.proofs.ReadSoFar.{fewer_left, no_more_left, no_packet, packet_given, read_more, read_to_end}
use Rattle.dump_pieces.proofs.reading.DumpReading.next_packet.Goals as goal

pub pieces-init : goal.pieces-init
pieces-init g c = record {
  given = λ limit first packets h. h;
  left = omega arith;
  no_fault = refl;
  reliable = λ never. (never, refl);
}

-- ---- a packet

pub returns-in-Some-clause-given : goal.returns-in-Some-clause-given
returns-in-Some-clause-given g c = λ limit first packets h.
    packet_given limit first (g.S.Source.state c.pieces.source).left packets c.pieces.self c.in-Some.packet c.waiting_packet.new.self (c.pieces.invariant.given limit first packets h)
    (rw c.in-Some.is at c.in_ok-packet.ensures.packet)

pub returns-in-Some-clause-fewer : goal.returns-in-Some-clause-fewer
returns-in-Some-clause-fewer g c =
    let less = fewer_left c.pieces.self c.in-Some.packet c.waiting_packet.new.self (rw c.in-Some.is at c.in_ok-packet.ensures.packet) in
    omega (arith, less, c.pieces.invariant.left)

-- ---- a piece

pub pieces-preserved : goal.pieces-preserved
pieces-preserved g c =
    let left = (g.S.Source.state c.pieces.source).left in
    let left' = (g.S.Source.state c.read_on.new.source).left in
    let stays : c.waiting_packet.new.self ≡ c.pieces.self = rw c.in-None.is at c.in_ok-packet.ensures.stays in
    let on = rw (c.if-not-branch.false, stays) at c.in_ok-read_on-in-None.ensures.read in
    let less = no_more_left left left' c.pieces.self c.read_on.new.self on in
    record {
      given = λ limit first packets h. read_more limit first left left' packets c.pieces.self c.read_on.new.self (c.pieces.invariant.given limit first packets h) on;
      left = omega (arith, less, c.pieces.invariant.left);
      no_fault = c.in_ok-read_on-in-None.ensures.counted ∙ c.pieces.invariant.no_fault;
      reliable = λ never. (let before = c.pieces.invariant.reliable never in let now = c.read_on.ensures.reliable before.0 in (now.0, now.1 ∙ before.1));
    }

pub pieces-smaller : goal.pieces-smaller
pieces-smaller g c =
    let stays : c.waiting_packet.new.self ≡ c.pieces.self = rw c.in-None.is at c.in_ok-packet.ensures.stays in
    let on = rw (c.if-not-branch.false, stays) at c.in_ok-read_on-in-None.ensures.read in
    let some = on.some in
    let room = on.room in
    omega (arith, some, room)

-- ---- no more

pub returns-then-not-branch-clause-none : goal.returns-then-not-branch-clause-none
returns-then-not-branch-clause-none g c = λ limit first packets h.
    let left = (g.S.Source.state c.pieces.source).left in
    let stays : c.waiting_packet.new.self ≡ c.pieces.self = rw c.in-None.is at c.in_ok-packet.ensures.stays in
    let none = rw c.in-None.is at c.in_ok-packet.ensures.none in
    let end = rw (c.if-not-branch.true, stays) at c.in_ok-read_on-in-None.ensures.read in
    subst (λ (r : Reading). IsDumpRead limit first packets (end_of_reading r)) (sym end.1)
    (read_to_end limit first left packets c.pieces.self (c.pieces.invariant.given limit first packets h) none end.0)

pub returns-in_err-read_on-in-None-clause-fault : goal.returns-in_err-read_on-in-None-clause-fault
returns-in_err-read_on-in-None-clause-fault g c =
    let stays : c.waiting_packet.new.self ≡ c.pieces.self = rw c.in-None.is at c.in_ok-packet.ensures.stays in
    let p = err_from_is_err_and c.from_residual-in_err-read_on-in-None.result c.from_residual-in_err-read_on-in-None.ensures.1 in
    rw (p.1, p.2)
    (no_packet (g.S.Source.state c.args.source.now).left (g.S.Source.state c.pieces.source).left c.args.self.now c.pieces.self c.pieces.invariant.given c.in_err-read_on-in-None.field-0.0
    (rw stays at c.in_err-read_on-in-None.ensures.fault))
