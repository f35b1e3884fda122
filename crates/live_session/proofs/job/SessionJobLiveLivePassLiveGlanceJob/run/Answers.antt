use Rattle.live_session.proofs.job.SessionJobLiveLivePassLiveGlanceJob.run.Goals as goal

pub returns-in-Reader : goal.returns-in-Reader
returns-in-Reader g c =
    let done = c.run-done.ensures in
    rw c.of_reader.ensures.0 (rw c.of_reader.ensures.1 (rw c.in-Reader.is
    (rw (← c.into_reader.ensures.own.0, ← c.into_reader.ensures.own.1, ← c.into_reader.ensures.asks.0, ← c.into_reader.ensures.asks.1) (done.0, (done.1, done.2, done.3, done.4)))))
