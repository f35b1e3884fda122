use Rattle.live_tests.proofs.Sending.{goes}
use Rattle.live_tests.proofs.callers.Called.TheSendSync as called
use Rattle.live_tests.proofs.callers.Caller.TheSendSync as caller
use Rattle.live_tests.proofs.threads.links.Goals as goal

pub both-first-requires-send-J : goal.both-first-requires-send-J
both-first-requires-send-J g c κs within =
    let disk = c.type_bounds.send-D in
    search (caller.the_send, goes) depth 60 fits 100000

pub both-first-requires-send-J-Done : goal.both-first-requires-send-J-Done
both-first-requires-send-J-Done g c κs within =
    let disk = c.type_bounds.send-D in
    search (called.the_send, goes) depth 60 fits 100000
