use Rattle.live_archive.proofs.Retrieved.{goes_planned, none_planned}
use Rattle.live_archive.proofs.Turning.{leaving_kept, matched, took}
use Rattle.live_archive.proofs.retrieving.LiveOver+HeldStore+D.planned.Goals as goal

pub leave-requires : goal.leave-requires
leave-requires g c =
    let device = g.D.Disk.device in
    let planned = c.planned-result in
    let go = goes_planned device c.enter-held.result.store planned.new.self.store c.args.request planned.result planned.ensures.refused planned.ensures.same in
    let none = none_planned device c.enter-held.result.store planned.new.self.store c.args.request planned.result planned.ensures.refused planned.ensures.same in
    let left = leaving_kept device _ c.enter-held.result planned.new.self c.args.pass.now c.enter-held.new.pass c.enter-held.ensures.value go none planned.ensures.shelf planned.ensures.closing c.enter-held.ensures.found in
    record { turn = c.enter-held.ensures.turn; begins = left.begins; fills_begin = left.fills_begin; value = left.value }

pub returns-clause-turn : goal.returns-clause-turn
returns-clause-turn g c =
    let device = g.D.Disk.device in
    let planned = c.planned-result in
    let go = goes_planned device c.enter-held.result.store planned.new.self.store c.args.request planned.result planned.ensures.refused planned.ensures.same in
    let entered = c.enter-held.ensures in
    took device _ c.enter-held.result.store planned.new.self.store c.args.pass.now c.enter-held.new.pass c.leave.new.pass _
    entered.value.store go entered.begins entered.fills_begin entered.found c.leave.ensures.left
    (planned.ensures.same, matched planned.result _ _ planned.ensures.planned planned.ensures.refused)
