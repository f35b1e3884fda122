use Rattle.live_archive.proofs.Closings.{none_begin}
use Rattle.live_archive.proofs.Going.{goes_begin}
use Rattle.live_archive.proofs.Turning.{leaving, matched_both, took}
use Rattle.live_archive.proofs.filling.LiveOver+HeldStore+D.begin_fill.Goals as goal

pub leave-requires : goal.leave-requires
leave-requires g c =
    let go = goes_begin g.D.Disk.device c.enter-held.result.store c.begin-result.new.self c.begin-result.result (matched_both c.begin-result.result _ _ _ c.begin-result.ensures.begun c.begin-result.ensures.refused c.begin-result.ensures.same) in
    let none = none_begin g.D.Disk.device c.enter-held.result.store c.begin-result.new.self c.begin-result.result (matched_both c.begin-result.result _ _ _ c.begin-result.ensures.begun c.begin-result.ensures.refused c.begin-result.ensures.same) in
    let left = leaving g.D.Disk.device _ c.enter-held.result c.begin-result.new.self c.args.pass.now c.enter-held.new.pass c.enter-held.ensures.value go none c.enter-held.ensures.found in
    record { turn = c.enter-held.ensures.turn; begins = left.begins; fills_begin = left.fills_begin; value = left.value }

pub returns-clause-turn : goal.returns-clause-turn
returns-clause-turn g c =
    let go = goes_begin g.D.Disk.device c.enter-held.result.store c.begin-result.new.self c.begin-result.result (matched_both c.begin-result.result _ _ _ c.begin-result.ensures.begun c.begin-result.ensures.refused c.begin-result.ensures.same) in
    let entered = c.enter-held.ensures in
    took g.D.Disk.device _ c.enter-held.result.store c.begin-result.new.self c.args.pass.now c.enter-held.new.pass c.leave.new.pass _
    entered.value.store go entered.begins entered.fills_begin entered.found c.leave.ensures.left
    (matched_both c.begin-result.result _ _ _ c.begin-result.ensures.begun c.begin-result.ensures.refused c.begin-result.ensures.same)
