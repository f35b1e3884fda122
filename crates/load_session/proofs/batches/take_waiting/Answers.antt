use Rattle.std.proofs.Common.{◌≡◌, ◌∙◌, [], refl}
use Rattle.space_packet.specs.Waiting.{IsTaken}
use Rattle.load_session.specs.Batches.{arrivals_with}
use Rattle.load_session.specs.Receiving.{Receiving, receiving}
use Rattle.load_session.proofs.Arrived.{CanReceive}
use Rattle.load_session.proofs.Batching.{waiting_more, waiting_none}
use Rattle.load_session.proofs.NameNumbers.{own_within}
use Rattle.load_session.proofs.batches.take_waiting.Goals as goal

pub loop-taken-init : goal.loop-taken-init
loop-taken-init c = record { taken = waiting_none _ _ _; received = refl }

pub loop-taken-preserved : goal.loop-taken-preserved
loop-taken-preserved c =
    let first = c.args.taken.now in
    let r : Receiving = receiving c.args.head.now [] c.args.graph.now c.args.link first.batch.rectime in
    let can : CanReceive r = record {
      link_low = c.requires.link.0;
      link_high = c.requires.link.1;
      named = λ packet. own_within c.args.head.now.mdb packet c.requires.head.1;
      few = c.requires.head.0.few;
      over = c.requires.route;
    } in
    let old = c.loop-taken.splitter in
    let had = c.loop-taken.taken in
    let packet = c.in-Ok-Some.packet in
    let taken : IsTaken old packet c.next_packet.new.self = rw c.in-Ok-Some.field-0-is at c.in-Ok-Some.ensures.packet in
    let grown : c.add.new.self.batch.arrivals ≡ arrivals_with r had.batch.arrivals packet = rw c.loop-taken.invariant.received at c.in_ok-add-in-Ok-Some.ensures.arrivals in
    record {
      taken = waiting_more r c.args.splitter.now old c.next_packet.new.self first had c.add.new.self packet can
          c.loop-taken-test.true taken c.in_ok-add-in-Ok-Some.ensures.packets c.add.ensures.received grown c.loop-taken.invariant.taken;
      received = c.add.ensures.received ∙ c.loop-taken.invariant.received;
    }
