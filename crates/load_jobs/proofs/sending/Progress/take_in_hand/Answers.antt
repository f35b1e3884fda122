use Rattle.load_jobs.proofs.Underway.{on_ok, taken_at}
use Rattle.load_jobs.proofs.sending.Progress.take_in_hand.Goals as goal

pub take_waiting-requires-clause-moment : goal.take_waiting-requires-clause-moment
take_waiting-requires-clause-moment c = rw c.requires.received c.requires.moment

pub returns-clause-taken : goal.returns-clause-taken
returns-clause-taken c =
    let at = c.args.reception.now in
    let old = c.args.self.now in
    on_ok c.take_waiting.result
    (taken_at at.head.now at.graph.now at.link at.moment old.splitter c.take_waiting.new.splitter old.taken c.take_waiting.new.taken c.requires.received) c.take_waiting.ensures.taken
