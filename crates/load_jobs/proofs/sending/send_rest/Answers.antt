use Rattle.std.proofs.Common.{◌++◌, [], ◌∙◌, refl, sym, subst, arith}
use Rattle.std.proofs.lemmas.Result.{err_from_is_err_and}
use Rattle.archive_store.specs.Pages.{TellsRows}
use Rattle.load_session.specs.Batches.{IsTakenFor}
use Rattle.load_session.specs.Receiving.{Receiving, receiving}
use Rattle.load_session.proofs.Batching.{taken_for_none}
use Rattle.load_jobs.specs.Underway.{IsUnderway, behind, behind_none}
use Rattle.load_jobs.proofs.Ahead.{within_batched}
use Rattle.load_jobs.proofs.Underway.{answered_all, none_in_hand, underway_batched}
use Rattle.load_jobs.proofs.sending.send_rest.Goals as goal

-- what was in hand was sent

pub send_batch-requires-clause-batch : goal.send_batch-requires-clause-batch
send_batch-requires-clause-batch g c = rw c.take_batch-batch.ensures.taken c.requires.in_hand

pub send_batch-requires-clause-within : goal.send_batch-requires-clause-within
send_batch-requires-clause-within g c =
    let same = c.take_batch-batch.ensures.counts in
    rw c.take_batch-batch.ensures.taken (within_batched c.args.progress.now c.take_batch-batch.new.self c.requires.within c.take_batch-batch.ensures.waiting c.take_batch-batch.ensures.none.0 same.0 same.1 same.2)

pub send_batch-requires-clause-some : goal.send_batch-requires-clause-some
send_batch-requires-clause-some g c = rw c.take_batch-batch.ensures.taken (omega (arith, c.if-progress-eq0.false))

pub returns-clause-sent : goal.returns-clause-sent
returns-clause-sent g c = λ origin read sent in_hand whole u.
    let at = c.args.reception.now in
    let r : Receiving = receiving at.head.now [] at.graph.now at.link at.moment in
    let q = c.take_batch-batch.new.self in
    let same = c.take_batch-batch.ensures.counts in
    let waits = c.take_batch-batch.ensures.waiting in
    let none = c.take_batch-batch.ensures.none in
    let taken = subst (IsTakenFor (behind_none r) in_hand) (sym c.take_batch-batch.ensures.taken) u.taken in
    let empty : IsTakenFor (behind_none r) [] q.taken = taken_for_none (behind_none r) q.taken none.0 (none.2 ∙ u.taken.batch.received) none.1 c.requires.moment in
    let now = underway_batched (behind r origin) read sent in_hand origin c.args.pass.now c.args.progress.now q u waits empty same.0 same.1 same.2 in
    let all = c.in_ok-send_batch.ensures.sent origin read sent in_hand [] [] whole taken now in
    rw c.summary-2.ensures (answered_all g.D.Disk.device c.args.live.now.cell.first.store (behind r origin) read origin c.send_batch.new.pass c.send_batch.new.progress refl (sent ++ in_hand) all (rw (c.send_batch.ensures.waiting, waits) c.requires.none_waits))

pub returns-in_err-send_batch-clause-sent : goal.returns-in_err-send_batch-clause-sent
returns-in_err-send_batch-clause-sent g c =
    let at = c.args.reception.now in
    let r : Receiving = receiving at.head.now [] at.graph.now at.link at.moment in
    let q = c.take_batch-batch.new.self in
    let same = c.take_batch-batch.ensures.counts in
    let waits = c.take_batch-batch.ensures.waiting in
    let none = c.take_batch-batch.ensures.none in
    let p = err_from_is_err_and c.from_residual.result c.from_residual.ensures.1 in
    rw (p.1, p.2) (λ origin read sent in_hand whole u. (
    let taken = subst (IsTakenFor (behind_none r) in_hand) (sym c.take_batch-batch.ensures.taken) u.taken in
    let empty : IsTakenFor (behind_none r) [] q.taken = taken_for_none (behind_none r) q.taken none.0 (none.2 ∙ u.taken.batch.received) none.1 c.requires.moment in
    let now = underway_batched (behind r origin) read sent in_hand origin c.args.pass.now c.args.progress.now q u waits empty same.0 same.1 same.2 in
    c.in_err-send_batch.ensures.refused origin read sent in_hand [] [] whole taken (λ few. (refl, rw waits c.requires.none_waits)) now))

-- nothing was in hand

pub returns-then-progress-eq0-clause-sent : goal.returns-then-progress-eq0-clause-sent
returns-then-progress-eq0-clause-sent g c = λ origin read sent in_hand whole u.
    let at = c.args.reception.now in
    let r : Receiving = receiving at.head.now [] at.graph.now at.link at.moment in
    let count = u.taken.count in
    let none : IsUnderway (TellsRows g.D.Disk.device c.args.live.now.cell.first.store) (behind r origin) read sent [] [] origin c.args.pass.now c.args.progress.now = none_in_hand (behind r origin) read sent in_hand origin c.args.pass.now c.args.progress.now u (omega (arith, count, c.if-progress-eq0.true)) in
    rw c.summary.ensures (answered_all g.D.Disk.device c.args.live.now.cell.first.store (behind r origin) read origin c.args.pass.now c.args.progress.now refl sent none c.requires.none_waits)
