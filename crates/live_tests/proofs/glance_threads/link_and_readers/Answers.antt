use Rattle.live_tests.proofs.Sending.{goes}
use Rattle.live_tests.proofs.glance_threads.Watched.TheSendSync as watched
use Rattle.live_tests.proofs.glance_threads.Watcher.TheSendSync as watcher
use Rattle.live_tests.proofs.glance_threads.link_and_readers.Goals as goal

pub all_five-link-requires-send-J : goal.all_five-link-requires-send-J
all_five-link-requires-send-J g c κs within =
    let disk = c.type_bounds.send-D in
    search (watcher.the_send, goes) depth 60 fits 100000

pub all_five-link-requires-send-J-Done : goal.all_five-link-requires-send-J-Done
all_five-link-requires-send-J-Done g c κs within =
    let disk = c.type_bounds.send-D in
    search (watched.the_send, goes) depth 60 fits 100000
