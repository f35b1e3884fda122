use Rattle.live_asks.proofs.Asking.{replay_is_asked}
use Rattle.live_asks.proofs.Looking.{looks_same}
use Rattle.live_asks.proofs.turns.answer_ask.Goals as goal

pub returns-in-Replay-clause-later : goal.returns-in-Replay-clause-later
returns-in-Replay-clause-later g c = looks_same c.args.glance.now

pub returns-in-Replay-clause-asked : goal.returns-in-Replay-clause-asked
returns-in-Replay-clause-asked g c =
    rw c.in-Replay.is
    (replay_is_asked g.D.Disk.device c.args.live.now.cell.first.store c.args.pass.now c.replay.new.pass c.args.glance.now c.args.steps.now c.in-Replay.found c.replay.result c.replay.ensures.sees c.replay.ensures.answered c.replay.ensures.refused)
