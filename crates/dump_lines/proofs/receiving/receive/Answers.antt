use Rattle.std.proofs.Common.{[], ◌∷◌, ◌++◌, ◌∙◌, refl, arith, w64}
use Rattle.std.proofs.lemmas.Int.{to_z-of_z}
use Rattle.std.proofs.lemmas.Result.{err_from_is_err_and}
use Rattle.dump_pieces.proofs.ReadSoFar.{given_few, nothing_given}
use Rattle.dump_lines.proofs.Receivings.{not_received}
use Rattle.dump_lines.proofs.receiving.receive.Goals as goal

pub packets-init : goal.packets-init
packets-init g c = record {
  given = ([], rw c.in_ok-reading.ensures (nothing_given c.args.limit (g.S.Source.state c.args.source.now).left), c.in_ok-rows.ensures _);
  no_fault = refl;
  reliable = λ never. (never, refl);
}

-- ---- a packet

pub add-requires-clause-few : goal.add-requires-clause-few
add-requires-clause-few g c =
    let given = c.packets.invariant.given in
    let few = given_few c.args.limit (g.S.Source.state c.args.source.now).left (g.S.Source.state c.packets.source).left given.0 c.packets.reading given.1 in
    (given.0, given.2, omega (arith, few, c.requires))

pub packets-preserved : goal.packets-preserved
packets-preserved g c =
    let given = c.packets.invariant.given in
    let first = (g.S.Source.state c.args.source.now).left in
    let gives = rw c.in-Some.is at c.in_ok-packet.ensures.given in
    record {
      given = (given.0 ++ c.in-Some.packet ∷ [], gives c.args.limit first given.0 given.1, c.in_ok-add-in-Some.ensures given.0 given.2);
      no_fault = c.in_ok-packet.ensures.counted ∙ c.packets.invariant.no_fault;
      reliable = λ never. (let before = c.packets.invariant.reliable never in let now = c.next_packet.ensures.reliable before.0 in (now.0, now.1 ∙ before.1));
    }

pub packets-smaller : goal.packets-smaller
packets-smaller g c = rw c.in-Some.is at c.in_ok-packet.ensures.fewer

-- ---- the end

pub returns-in-None-clause-received : goal.returns-in-None-clause-received
returns-in-None-clause-received g c =
    let given = c.packets.invariant.given in
    let ends = rw c.in-None.is at c.in_ok-packet.ensures.none in
    let moment = to_z-of_z w64 c.args.moment c.ranges.moment in
    let kept : g.R.DumpRows.keeps c.packets.rows c.args.moment given.0 = rw moment at given.2 in
    record {
      packets = given.0;
      read = rw c.end-end.ensures (ends c.args.limit (g.S.Source.state c.args.source.now).left given.0 given.1);
      kept = kept;
    }

pub returns-in_err-packet-clause-fault : goal.returns-in_err-packet-clause-fault
returns-in_err-packet-clause-fault g c =
    let given = c.packets.invariant.given in
    let p = err_from_is_err_and c.from_residual-in_err-packet.result c.from_residual-in_err-packet.ensures.1 in
    rw (p.1, p.2)
    (not_received c.args.limit (g.S.Source.state c.args.source.now).left (g.S.Source.state c.packets.source).left given.0 c.packets.reading given.1 c.in_err-packet.field-0.0 c.in_err-packet.ensures.fault)
