use Rattle.std.proofs.Common.{[], length, Ok, ap, refl, subst, arith}
use Rattle.std.proofs.lemmas.Result.{err_from_is_err_and}
use Rattle.archive_store.specs.Head.{Head}
use Rattle.archive_store.specs.Batches.{IsBatch, batch_rows}
use Rattle.live_archive.proofs.Added.{ingests_add}
use Rattle.live_archive.proofs.Going.{told_on}
use Rattle.load_session.specs.Receiving.{Receiving, receiving}
use Rattle.load_session.proofs.Arrived.{few_arrived, few_rows}
use Rattle.load_jobs.specs.Underway.{behind}
use Rattle.load_jobs.proofs.Underway.{answered_refused, underway_sent, within_sent}
use Rattle.load_jobs.proofs.sending.send_batch.Goals as goal

-- a store of the head takes the batch behind what the pass has seen
pub ingest-requires-clause-batch : goal.ingest-requires-clause-batch
ingest-requires-clause-batch g c =
    subst (λ (h : Head). IsBatch h c.args.pass.now.history.seen c.args.batch.batch) c.requires.of_archive
    (c.requires.batch.1.batch.takes c.args.pass.now.history.seen (c.args.pass.now.history.seen, refl))

-- ---- counts

pub count_sent-requires-clause-packets : goal.count_sent-requires-clause-packets
count_sent-requires-clause-packets g c =
    let within = c.requires.within.packets in
    let octets = c.requires.within.octets in
    omega (arith, within, octets)

pub count_sent-requires-clause-arrivals : goal.count_sent-requires-clause-arrivals
count_sent-requires-clause-arrivals g c =
    let t = c.requires.batch.1 in
    let count = t.count in
    let arrivals = t.batch.count in
    let less = few_arrived c.requires.batch.0 in
    omega (arith, count, arrivals, less)

pub count_sent-requires-clause-routed : goal.count_sent-requires-clause-routed
count_sent-requires-clause-routed g c =
    let at = c.args.reception.now in
    let r : Receiving = receiving at.head.now [] at.graph.now at.link at.moment in
    let t = c.requires.batch.1 in
    let more = few_rows r c.requires.batch.0 c.requires.head.0.few c.requires.route in
    let less = few_arrived c.requires.batch.0 in
    let count = t.few in
    let rows = ap length t.batch.rows in
    let within = c.requires.within.packets in
    let octets = c.requires.within.octets in
    let routed = c.requires.within.routed in
    let turn = c.in_ok-ingested.ensures.turn in
    let counted = turn.said.each in
    rw c.as_slice.ensures (omega (arith, more, less, count, rows, within, octets, routed, counted))

-- ---- what it comes to

pub returns-clause-sent : goal.returns-clause-sent
returns-clause-sent g c = λ origin read sent packets ahead in_hand whole t u.
    let device = g.D.Disk.device in
    let at = c.args.reception.now in
    let r : Receiving = receiving at.head.now [] at.graph.now at.link at.moment in
    let p = c.args.progress.now in
    let q = c.count_sent.new.self in
    let next = c.count_sent.ensures in
    let turn = c.in_ok-ingested.ensures.turn in
    let rows = batch_rows c.args.batch.batch in
    let adds = ingests_add _ device _ turn.before turn.after c.args.pass.now c.ingest.new.pass rows (Ok c.in_ok-ingested.ingested) turn.turned turn.said in
    let routed = rw (c.as_slice.ensures, turn.said.each) at next.routed in
    underway_sent (behind r origin) read origin c.args.pass.now p refl c.args.batch sent packets ahead in_hand whole t u turn.before c.ingest.new.pass q adds.0 adds.1 adds.2.0.of_batch adds.2.0.few (λ told. adds.2.0.told (told_on device c.args.live.now.cell.first.store turn.before turn.turned.found.appends.sealed told)) adds.3 adds.2.1 c.requires.some next.waiting next.in_hand next.packets next.idle routed

pub returns-clause-within : goal.returns-clause-within
returns-clause-within g c = λ more within.
    let at = c.args.reception.now in
    let r : Receiving = receiving at.head.now [] at.graph.now at.link at.moment in
    let next = c.count_sent.ensures in
    let turn = c.in_ok-ingested.ensures.turn in
    let routed = rw (c.as_slice.ensures, turn.said.each) at next.routed in
    within_sent r more c.args.batch c.args.progress.now c.count_sent.new.self c.requires.batch c.requires.head.0.few c.requires.route within next.waiting next.in_hand next.packets next.idle routed

pub returns-in_err-ingested-clause-refused : goal.returns-in_err-ingested-clause-refused
returns-in_err-ingested-clause-refused g c =
    let at = c.args.reception.now in
    let r : Receiving = receiving at.head.now [] at.graph.now at.link at.moment in
    let p = err_from_is_err_and c.from_residual.result c.from_residual.ensures.1 in
    rw (p.1, p.2) (λ origin read sent packets ahead in_hand whole t last u.
    answered_refused g.D.Disk.device c.args.live.now.cell.first.store (behind r origin) read origin c.args.pass.now c.args.progress.now refl c.args.batch sent packets ahead in_hand whole t u c.ingest.new.pass c.in_err-ingested.field-0.0 last c.in_err-ingested.ensures.turn)
