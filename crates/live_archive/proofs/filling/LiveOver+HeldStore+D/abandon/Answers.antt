use Rattle.live_archive.proofs.Closings.{none_abandoned}
use Rattle.live_archive.proofs.Going.{goes_freed}
use Rattle.live_archive.proofs.Turning.{leaving, took}
use Rattle.live_archive.proofs.filling.LiveOver+HeldStore+D.abandon.Goals as goal

pub leave-requires : goal.leave-requires
leave-requires g c =
    let go = goes_freed g.D.Disk.device c.enter-held.result.store c.abandon.new.self c.args.task.interval c.abandon.ensures.freed in
    let none = none_abandoned g.D.Disk.device c.enter-held.result.store c.abandon.new.self c.args.task.interval c.abandon.ensures.freed in
    let left = leaving g.D.Disk.device _ c.enter-held.result c.abandon.new.self c.args.pass.now c.enter-held.new.pass c.enter-held.ensures.value go none c.enter-held.ensures.found in
    record { turn = c.enter-held.ensures.turn; begins = left.begins; fills_begin = left.fills_begin; value = left.value }

pub returns-clause-turn : goal.returns-clause-turn
returns-clause-turn g c =
    let go = goes_freed g.D.Disk.device c.enter-held.result.store c.abandon.new.self c.args.task.interval c.abandon.ensures.freed in
    let entered = c.enter-held.ensures in
    took g.D.Disk.device _ c.enter-held.result.store c.abandon.new.self c.args.pass.now c.enter-held.new.pass c.leave.new.pass _
    entered.value.store go entered.begins entered.fills_begin entered.found c.leave.ensures.left
    c.abandon.ensures.freed
