use Rattle.std.proofs.Common.{SFits, rules, w64}
use Rattle.std.proofs.lemmas.Int.{to_z-of_z}
use Rattle.load_jobs.proofs.sending.Progress.take_batch.Goals as goal

pub returns-clause-none : goal.returns-clause-none
returns-clause-none c =
    let moment = c.args.self.now.taken.batch.rectime in
    let fits : SFits w64 moment = search rules in
    let received = rw (to_z-of_z w64 moment fits) at c.empty-next.ensures.received in
    rw c.replace.ensures.after (c.empty-next.ensures.none.0, c.empty-next.ensures.none.1, received)
