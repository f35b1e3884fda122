use Rattle.std.proofs.Common.{◌≡◌, ◌+◌, ◌*◌, ◌∷◌, ◌++◌, [], ◌∙◌, length, refl, sym, ap, subst, List, arith}
use Rattle.std.proofs.lemmas.Result.{err_from_is_err_and}
use Rattle.load_session.specs.declared.batches.NextBatch.{NextBatch}
use Rattle.load_session.specs.Receiving.{Receiving, receiving}
use Rattle.load_jobs.specs.Underway.{AreAhead, AreTakenFor, IsWithinLimitWith, behind, behind_none, packets_of}
use Rattle.load_jobs.proofs.Ahead.{taken_next, within_fewer}
use Rattle.load_jobs.proofs.Underway.{all_ahead_sent, one_refused, one_sent}
use Rattle.load_jobs.proofs.sending.send_ahead.Goals as goal

pub batches-init : goal.batches-init
batches-init g c =
    let at = c.args.reception.now in
    let r : Receiving = receiving at.head.now [] at.graph.now at.link at.moment in
    let gives : c.into_iter-batch-iterator.result.rest.items ≡ c.args.ahead.items = let s = c.into_iter-batch-iterator.ensures.into_iter_gives in cc in
    record {
      free = c.requires.free;
      ahead = subst (AreAhead r) (sym gives) c.requires.ahead;
      within = subst (λ (l : List NextBatch). IsWithinLimitWith (64 * length l) c.args.progress.now) (sym gives) c.requires.within;
      waiting = refl;
      in_hand = refl;
      on = λ origin read sent groups in_hand whole t u. (sent, groups, whole, subst (AreTakenFor (behind_none r) groups) (sym gives) t, refl, u);
    }

-- ---- the batch that comes next

pub send_batch-requires-clause-batch : goal.send_batch-requires-clause-batch
send_batch-requires-clause-batch g c =
    let at = c.args.reception.now in
    let r : Receiving = receiving at.head.now [] at.graph.now at.link at.moment in
    let step : c.batches.batch-iterator.rest.items ≡ c.in-Some.batch ∷ c.next.new.self.rest.items = let s = c.in-Some.ensures.steps in cc in
    let ahead = c.batches.invariant.ahead in
    let n = taken_next (behind_none r) ahead.0 c.batches.batch-iterator.rest.items c.next.new.self.rest.items c.in-Some.batch ahead.1 step in
    (n.0, n.4)

pub send_batch-requires-clause-within : goal.send_batch-requires-clause-within
send_batch-requires-clause-within g c =
    let at = c.args.reception.now in
    let r : Receiving = receiving at.head.now [] at.graph.now at.link at.moment in
    let step : c.batches.batch-iterator.rest.items ≡ c.in-Some.batch ∷ c.next.new.self.rest.items = let s = c.in-Some.ensures.steps in cc in
    let ahead = c.batches.invariant.ahead in
    let n = taken_next (behind_none r) ahead.0 c.batches.batch-iterator.rest.items c.next.new.self.rest.items c.in-Some.batch ahead.1 step in
    let many = ap length step in
    let full = n.3 in
    let count = n.4.count in
    within_fewer (64 * length c.batches.batch-iterator.rest.items) c.in-Some.batch.packets c.batches.progress (omega (arith, many, full, count)) c.batches.invariant.within

pub send_batch-requires-clause-some : goal.send_batch-requires-clause-some
send_batch-requires-clause-some g c =
    let at = c.args.reception.now in
    let r : Receiving = receiving at.head.now [] at.graph.now at.link at.moment in
    let step : c.batches.batch-iterator.rest.items ≡ c.in-Some.batch ∷ c.next.new.self.rest.items = let s = c.in-Some.ensures.steps in cc in
    let ahead = c.batches.invariant.ahead in
    let n = taken_next (behind_none r) ahead.0 c.batches.batch-iterator.rest.items c.next.new.self.rest.items c.in-Some.batch ahead.1 step in
    let full = n.3 in
    let count = n.4.count in
    omega (arith, full, count)

pub batches-preserved : goal.batches-preserved
batches-preserved g c =
    let at = c.args.reception.now in
    let r : Receiving = receiving at.head.now [] at.graph.now at.link at.moment in
    let rest = c.batches.batch-iterator.rest.items in
    let left = c.next.new.self.rest.items in
    let batch = c.in-Some.batch in
    let step : rest ≡ batch ∷ left = let s = c.in-Some.ensures.steps in cc in
    let inv = c.batches.invariant in
    let n = taken_next (behind_none r) inv.ahead.0 rest left batch inv.ahead.1 step in
    let many = ap length step in
    let full = n.3 in
    let count = n.4.count in
    record {
      free = c.send_batch.ensures.free;
      ahead = (n.1, n.5);
      within = c.in_ok-send_batch.ensures.within (64 * length left) (within_fewer (64 * length rest) (batch.packets + 64 * length left) c.batches.progress (omega (arith, many, full, count)) inv.within);
      waiting = c.send_batch.ensures.waiting ∙ inv.waiting;
      in_hand = c.send_batch.ensures.in_hand ∙ inv.in_hand;
      on = λ origin read sent groups in_hand whole t u.
          one_sent (behind r origin) read rest (sent ++ packets_of groups) in_hand origin c.batches.pass c.batches.progress (inv.on origin read sent groups in_hand whole t u) batch left step c.send_batch.new.pass c.send_batch.new.progress
          (c.in_ok-send_batch.ensures.sent origin read);
    }

-- ---- its ends

pub returns-clause-sent : goal.returns-clause-sent
returns-clause-sent g c =
    let at = c.args.reception.now in
    let r : Receiving = receiving at.head.now [] at.graph.now at.link at.moment in
    let rest = c.batches.batch-iterator.rest in
    λ origin read sent groups in_hand whole t u.
    all_ahead_sent (behind r origin) read rest.items (sent ++ packets_of groups) in_hand origin c.batches.pass c.batches.progress (c.batches.invariant.on origin read sent groups in_hand whole t u)
    (omega (arith, c.in-None.ensures.steps.0, rest.ok.0))

pub returns-clause-within : goal.returns-clause-within
returns-clause-within g c =
    let rest = c.batches.batch-iterator.rest in
    within_fewer (64 * length rest.items) 0 c.batches.progress (omega arith) c.batches.invariant.within

pub returns-in_err-send_batch-clause-refused : goal.returns-in_err-send_batch-clause-refused
returns-in_err-send_batch-clause-refused g c =
    let at = c.args.reception.now in
    let r : Receiving = receiving at.head.now [] at.graph.now at.link at.moment in
    let rest = c.batches.batch-iterator.rest.items in
    let left = c.next.new.self.rest.items in
    let step : rest ≡ c.in-Some.batch ∷ left = let s = c.in-Some.ensures.steps in cc in
    let p = err_from_is_err_and c.from_residual.result c.from_residual.ensures.1 in
    rw (p.1, p.2) (λ origin read sent groups in_hand whole t u.
    one_refused (behind r origin) read rest (sent ++ packets_of groups) in_hand origin c.batches.pass c.batches.progress (c.batches.invariant.on origin read sent groups in_hand whole t u) c.in-Some.batch left step g.D.Disk.device c.args.live.now.cell.first.store c.send_batch.new.pass
    (c.in_err-send_batch.ensures.refused origin read))
