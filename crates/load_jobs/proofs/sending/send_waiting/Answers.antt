use Rattle.std.proofs.Common.{◌+◌, ◌++◌, [], refl, sym, ap, ◌∙◌, length, subst, arith}
use Rattle.space_packet.specs.Waiting.{Waiting}
use Rattle.std.proofs.lemmas.Result.{err_from_is_err_and}
use Rattle.load_session.specs.declared.batches.NextBatch.{NextBatch}
use Rattle.load_session.specs.Batches.{IsTakenFor}
use Rattle.load_session.specs.Receiving.{Receiving, receiving}
use Rattle.load_jobs.specs.Underway.{behind, packets_of}
use Rattle.load_jobs.proofs.Ahead.{ahead_smaller, within_ahead}
use Rattle.load_jobs.proofs.Underway.{answered_no_memory, groups_sent, underway_ahead}
use Rattle.load_jobs.proofs.sending.send_waiting.Goals as goal

pub rounds-init : goal.rounds-init
rounds-init g c = record {
  free = c.requires.free;
  in_hand = c.requires.in_hand;
  within = c.requires.within;
  level = refl;
  on = λ origin read sent in_hand whole u. (sent, in_hand, whole, u);
}

pub take_ahead-requires-clause-received : goal.take_ahead-requires-clause-received
take_ahead-requires-clause-received g c = c.rounds.invariant.in_hand.1.batch.received

-- ---- batches one behind the other

pub send_ahead-requires-clause-ahead : goal.send_ahead-requires-clause-ahead
send_ahead-requires-clause-ahead g c =
    let hand = c.rounds.invariant.in_hand in
    let t = c.in_ok-ahead.ensures.ahead hand.0 hand.1 in
    (t.groups, t.ahead)

pub send_ahead-requires-clause-within : goal.send_ahead-requires-clause-within
send_ahead-requires-clause-within g c =
    let hand = c.rounds.invariant.in_hand in
    let same = c.take_ahead.ensures.counts in
    let at = c.args.reception.now in
    let r : Receiving = receiving at.head.now [] at.graph.now at.link at.moment in
    within_ahead r hand.0 c.in_ok-ahead.ahead.items c.rounds.progress c.take_ahead.new.self hand.1 (c.in_ok-ahead.ensures.ahead hand.0 hand.1) c.rounds.invariant.within same.0 same.1 same.2

pub rounds-preserved : goal.rounds-preserved
rounds-preserved g c =
    let hand = c.rounds.invariant.in_hand in
    let t = c.in_ok-ahead.ensures.ahead hand.0 hand.1 in
    let batches = c.in_ok-ahead.ahead.items in
    let q = c.take_ahead.new.self in
    let same = c.take_ahead.ensures.counts in
    let level = t.level in
    let had = c.rounds.invariant.level in
    let at = c.args.reception.now in
    let r : Receiving = receiving at.head.now [] at.graph.now at.link at.moment in
    record {
      free = c.send_ahead.ensures.free;
      in_hand = (t.in_hand, subst (IsTakenFor r t.in_hand) (sym c.send_ahead.ensures.in_hand) t.taken);
      within = c.in_ok-send_ahead.ensures.within;
      level = ap (λ (w : Waiting). w.at + length w.octets) c.send_ahead.ensures.waiting ∙ (level ∙ had);
      on = λ origin read sent in_hand whole u. (
          let was = c.rounds.invariant.on origin read sent in_hand whole u in
          let taken = c.in_ok-ahead.ensures.ahead was.1 was.3.taken in
          let now = underway_ahead (behind r origin) read was.0 was.1 origin c.rounds.pass batches c.rounds.progress q was.3 taken same.0 same.1 same.2 in
          let all = c.in_ok-send_ahead.ensures.sent origin read was.0 taken.groups taken.in_hand was.2 taken.ahead now in
          (was.0 ++ packets_of taken.groups, taken.in_hand, groups_sent r was.0 taken.groups batches was.2 taken.ahead, all));
    }

-- each of their packets has an octet or more
pub rounds-smaller : goal.rounds-smaller
rounds-smaller g c =
    let hand = c.rounds.invariant.in_hand in
    let at = c.args.reception.now in
    let r : Receiving = receiving at.head.now [] at.graph.now at.link at.moment in
    let less = ahead_smaller r hand.0 c.in_ok-ahead.ahead.items c.rounds.progress c.take_ahead.new.self hand.1 (c.in_ok-ahead.ensures.ahead hand.0 hand.1) in
    let octets = ap (λ (w : Waiting). length w.octets) c.send_ahead.ensures.waiting in
    let taken = ap (λ (t : NextBatch). t.packets) c.send_ahead.ensures.in_hand in
    omega (arith, less, octets, taken, c.in_ok-ahead.ahead.ok, c.if-is_last.false)

-- ---- its ends

-- fewer are in hand, and none waits
pub returns-then-is_last-clause-sent : goal.returns-then-is_last-clause-sent
returns-then-is_last-clause-sent g c = λ origin read sent in_hand whole u.
    let at = c.args.reception.now in
    let r : Receiving = receiving at.head.now [] at.graph.now at.link at.moment in
    let batches = c.in_ok-ahead.ahead.items in
    let q = c.take_ahead.new.self in
    let same = c.take_ahead.ensures.counts in
    let was = c.rounds.invariant.on origin read sent in_hand whole u in
    let taken = c.in_ok-ahead.ensures.ahead was.1 was.3.taken in
    let now = underway_ahead (behind r origin) read was.0 was.1 origin c.rounds.pass batches c.rounds.progress q was.3 taken same.0 same.1 same.2 in
    record {
      sent = was.0 ++ packets_of taken.groups;
      in_hand = taken.in_hand;
      underway = c.in_ok-send_ahead.ensures.sent origin read was.0 taken.groups taken.in_hand was.2 taken.ahead now;
      whole = groups_sent r was.0 taken.groups batches was.2 taken.ahead;
      none_waits = rw c.send_ahead.ensures.waiting (c.in_ok-ahead.ensures.last (omega (arith, c.if-is_last.true)));
    }

pub returns-then-is_last-clause-in_hand : goal.returns-then-is_last-clause-in_hand
returns-then-is_last-clause-in_hand g c =
    let at = c.args.reception.now in
    let r : Receiving = receiving at.head.now [] at.graph.now at.link at.moment in
    let hand = c.rounds.invariant.in_hand in
    let t = c.in_ok-ahead.ensures.ahead hand.0 hand.1 in
    (t.in_hand, subst (IsTakenFor r t.in_hand) (sym c.send_ahead.ensures.in_hand) t.taken)

pub returns-then-is_last-clause-level : goal.returns-then-is_last-clause-level
returns-then-is_last-clause-level g c =
    let hand = c.rounds.invariant.in_hand in
    let level = (c.in_ok-ahead.ensures.ahead hand.0 hand.1).level in
    ap (λ (w : Waiting). w.at + length w.octets) c.send_ahead.ensures.waiting ∙ (level ∙ c.rounds.invariant.level)

pub returns-in_err-ahead-clause-refused : goal.returns-in_err-ahead-clause-refused
returns-in_err-ahead-clause-refused g c =
    let at = c.args.reception.now in
    let r : Receiving = receiving at.head.now [] at.graph.now at.link at.moment in
    let p = err_from_is_err_and c.from_residual.result c.from_residual.ensures.1 in
    rw (p.1, p.2) (λ origin read sent in_hand whole u.
    answered_no_memory g.D.Disk.device c.args.live.now.cell.first.store (behind r origin) read origin c.rounds.pass c.rounds.progress refl (c.rounds.invariant.on origin read sent in_hand whole u))

pub returns-in_err-send_ahead-clause-refused : goal.returns-in_err-send_ahead-clause-refused
returns-in_err-send_ahead-clause-refused g c =
    let at = c.args.reception.now in
    let r : Receiving = receiving at.head.now [] at.graph.now at.link at.moment in
    let batches = c.in_ok-ahead.ahead.items in
    let q = c.take_ahead.new.self in
    let same = c.take_ahead.ensures.counts in
    let p = err_from_is_err_and c.from_residual-in_err-send_ahead.result c.from_residual-in_err-send_ahead.ensures.1 in
    rw (p.1, p.2) (λ origin read sent in_hand whole u. (
    let was = c.rounds.invariant.on origin read sent in_hand whole u in
    let taken = c.in_ok-ahead.ensures.ahead was.1 was.3.taken in
    let now = underway_ahead (behind r origin) read was.0 was.1 origin c.rounds.pass batches c.rounds.progress q was.3 taken same.0 same.1 same.2 in
    c.in_err-send_ahead.ensures.refused origin read was.0 taken.groups taken.in_hand was.2 taken.ahead now))
