use Rattle.load_jobs.proofs.link.run_link.Goals as goal

pub returns : goal.returns
returns g c =
    let done = c.send_dump-end.ensures in
    record { free = done.free; run = done.run; counted = done.counted; later = done.later; reliable = done.reliable }
