use Rattle.jobs.proofs.Ended.{ends_more}
use Rattle.jobs.proofs.running.+running_all.Goals as goal

pub run_all-returns-clause-did : goal.run_all-returns-clause-did
run_all-returns-clause-did g t c =
    rw (c.push_reserved.ensures.items, c.in-Some.ensures.items) (ends_more g.J.Job.did _ _ _ c.in-Some.job c.run_beside-end.result c.run_beside-end.ensures.did c.run_beside-end.ensures.ran.1)
