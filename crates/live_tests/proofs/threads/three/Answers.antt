use Rattle.live_tests.proofs.Sending.{goes}
use Rattle.live_tests.proofs.callers.Called.TheSendSync as called
use Rattle.live_tests.proofs.callers.Caller.TheSendSync as caller
use Rattle.live_tests.proofs.threads.three.Goals as goal

pub all_three-link-requires-send-J : goal.all_three-link-requires-send-J
all_three-link-requires-send-J g c κs within =
    let disk = c.type_bounds.send-D in
    search (caller.the_send, goes) depth 60 fits 100000

pub all_three-link-requires-send-J-Done : goal.all_three-link-requires-send-J-Done
all_three-link-requires-send-J-Done g c κs within =
    let disk = c.type_bounds.send-D in
    search (called.the_send, goes) depth 60 fits 100000
