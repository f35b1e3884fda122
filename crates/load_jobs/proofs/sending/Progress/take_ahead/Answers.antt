use Rattle.std.proofs.Common.{[], ◌∙◌, refl, arith}
use Rattle.load_session.specs.Batches.{IsTakenFor}
use Rattle.load_session.specs.Receiving.{Receiving, receiving}
use Rattle.load_session.proofs.Batching.{taken_for_none}
use Rattle.load_jobs.proofs.Ahead.{ahead_batched, ahead_waited, taken_none_ahead}
use Rattle.load_jobs.proofs.sending.Progress.take_ahead.Goals as goal

pub batches-init : goal.batches-init
batches-init c =
    let at = c.args.reception.now in
    let p = c.args.self.now in
    record {
      received = c.requires.received;
      ahead = λ had taken. rw c.new-ahead.ensures.items (taken_none_ahead (receiving at.head.now [] at.graph.now at.link at.moment) had p.splitter p.taken taken);
      counts = (refl, refl, refl);
    }

pub batches-preserved : goal.batches-preserved
batches-preserved c =
    let at = c.args.reception.now in
    let r : Receiving = receiving at.head.now [] at.graph.now at.link at.moment in
    let inv = c.batches.invariant in
    let first = c.args.self.now in
    let p = c.batches.self in
    let mid = c.take_in_hand.new.self in
    let q = c.take_batch.new.self in
    let t = c.in_ok-take_in_hand.ensures.taken in
    let none = c.take_batch.ensures.none in
    let received = none.2 ∙ (c.take_in_hand.ensures.received ∙ inv.received) in
    record {
      received = received;
      ahead = λ had taken. (
          let h = ahead_waited r had first.splitter p.splitter mid.splitter p.taken mid.taken c.batches.ahead.items (inv.ahead had taken) t in
          let empty : IsTakenFor r [] q.taken = taken_for_none r q.taken none.0 received none.1 c.requires.moment in
          let more = ahead_batched r had first.splitter mid.splitter mid.taken q.taken c.batches.ahead.items h (omega (arith, c.if-self-lt-BATCH.false)) empty in
          rw (c.take_batch.ensures.waiting, c.in_ok-push.ensures.items, c.take_batch.ensures.taken) more);
      counts = (
        c.take_batch.ensures.counts.0 ∙ (c.take_in_hand.ensures.counts.0 ∙ inv.counts.0),
        c.take_batch.ensures.counts.1 ∙ (c.take_in_hand.ensures.counts.1 ∙ inv.counts.1),
        c.take_batch.ensures.counts.2 ∙ (c.take_in_hand.ensures.counts.2 ∙ inv.counts.2),
      );
    }

-- fewer packets than a batch takes are in hand
pub returns-then-self-lt-BATCH-clause-ahead : goal.returns-then-self-lt-BATCH-clause-ahead
returns-then-self-lt-BATCH-clause-ahead c =
    let at = c.args.reception.now in
    let r : Receiving = receiving at.head.now [] at.graph.now at.link at.moment in
    let first = c.args.self.now in
    let p = c.batches.self in
    let mid = c.take_in_hand.new.self in
    λ had taken. ahead_waited r had first.splitter p.splitter mid.splitter p.taken mid.taken c.batches.ahead.items (c.batches.invariant.ahead had taken) c.in_ok-take_in_hand.ensures.taken
