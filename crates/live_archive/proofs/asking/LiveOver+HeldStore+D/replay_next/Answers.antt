use Rattle.live_archive.proofs.Asked.{rows_as_seen}
use Rattle.live_archive.proofs.Closings.{none_read}
use Rattle.live_archive.proofs.Going.{goes_read, told_on}
use Rattle.live_archive.proofs.Turning.{leaving, took}
use Rattle.live_archive.proofs.asking.LiveOver+HeldStore+D.replay_next.Goals as goal

pub leave-requires : goal.leave-requires
leave-requires g c =
    let device = g.D.Disk.device in
    let step = c.replay_step-result in
    let go = goes_read device c.enter-held.result.store step.new.self step.result step.ensures.refused step.ensures.same in
    let none = none_read device c.enter-held.result.store step.new.self step.result step.ensures.refused step.ensures.same in
    let left = leaving device _ c.enter-held.result step.new.self c.args.pass.now c.enter-held.new.pass c.enter-held.ensures.value go none c.enter-held.ensures.found in
    record { turn = c.enter-held.ensures.turn; begins = left.begins; fills_begin = left.fills_begin; value = left.value }

pub returns-clause-turn : goal.returns-clause-turn
returns-clause-turn g c =
    let device = g.D.Disk.device in
    let step = c.replay_step-result in
    let go = goes_read device c.enter-held.result.store step.new.self step.result step.ensures.refused step.ensures.same in
    let entered = c.enter-held.ensures in
    took device _ c.enter-held.result.store step.new.self c.args.pass.now c.enter-held.new.pass c.leave.new.pass _
    entered.value.store go entered.begins entered.fills_begin entered.found c.leave.ensures.left
    (step.ensures.same, step.ensures.refused)

pub returns-clause-rows : goal.returns-clause-rows
returns-clause-rows g c told =
    let step = c.replay_step-result in
    let here = told_on g.D.Disk.device c.args.self.now.cell.first.store c.enter-held.result.store c.enter-held.ensures.value.store.appends.sealed told in
    rows_as_seen step.result c.args.cursor.now step.new.cursor _ c.enter-held.result.store.history c.requires.front c.enter-held.ensures.begins step.ensures.asked (step.ensures.rows here)
