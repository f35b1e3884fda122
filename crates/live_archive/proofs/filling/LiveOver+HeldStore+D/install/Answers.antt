use Rattle.live_archive.specs.Turns.{as_seen}
use Rattle.live_archive.proofs.Closings.{none_install}
use Rattle.live_archive.proofs.Going.{goes_install}
use Rattle.live_archive.proofs.Later.{right_later}
use Rattle.live_archive.proofs.Shelving.{held_beside}
use Rattle.live_archive.proofs.Turning.{leaving_published, left_by, matched, took}
use Rattle.live_archive.proofs.filling.LiveOver+HeldStore+D.install.Goals as goal

pub install-result-requires : goal.install-result-requires
install-result-requires g c = λ clear. right_later (as_seen c.args.self.now.cell.first.store c.args.pass.now) c.enter-held.result.store c.args.done c.enter-held.ensures.begins c.enter-held.ensures.value.store.appends.head c.enter-held.ensures.value.store.appends.exponent (c.requires.right clear)

pub published-held-requires : goal.published-held-requires
published-held-requires g c =
    let go = goes_install g.D.Disk.device c.enter-held.result.store c.install-result.new.self c.args.done c.install-result.result c.install-result.ensures.grows (λ clear. right_later (as_seen c.args.self.now.cell.first.store c.args.pass.now) c.enter-held.result.store c.args.done c.enter-held.ensures.begins c.enter-held.ensures.value.store.appends.head c.enter-held.ensures.value.store.appends.exponent (c.requires.right clear)) c.install-result.ensures.crash (matched c.install-result.result _ _ c.install-result.ensures.installed c.install-result.ensures.refused) in
    record { beside = held_beside g.D.Disk.device _ c.enter-held.result c.install-result.new.self c.enter-held.ensures.value go; last = c.enter-held.ensures.value.last }

pub leave-requires : goal.leave-requires
leave-requires g c =
    let go = goes_install g.D.Disk.device c.enter-held.result.store c.install-result.new.self c.args.done c.install-result.result c.install-result.ensures.grows (λ clear. right_later (as_seen c.args.self.now.cell.first.store c.args.pass.now) c.enter-held.result.store c.args.done c.enter-held.ensures.begins c.enter-held.ensures.value.store.appends.head c.enter-held.ensures.value.store.appends.exponent (c.requires.right clear)) c.install-result.ensures.crash (matched c.install-result.result _ _ c.install-result.ensures.installed c.install-result.ensures.refused) in
    let none = none_install g.D.Disk.device c.enter-held.result.store c.install-result.new.self c.args.done c.install-result.result (matched c.install-result.result _ _ c.install-result.ensures.installed c.install-result.ensures.refused) in
    let left = leaving_published g.D.Disk.device _ c.enter-held.result c.published-held.result.0 c.install-result.new.self c.args.pass.now c.enter-held.new.pass c.enter-held.ensures.value go none c.published-held.ensures.closing c.published-held.ensures.shelf c.published-held.ensures.last c.enter-held.ensures.found in
    record { turn = c.enter-held.ensures.turn; begins = left.begins; fills_begin = left.fills_begin; value = left.value }

pub returns-clause-turn : goal.returns-clause-turn
returns-clause-turn g c =
    let go = goes_install g.D.Disk.device c.enter-held.result.store c.install-result.new.self c.args.done c.install-result.result c.install-result.ensures.grows (λ clear. right_later (as_seen c.args.self.now.cell.first.store c.args.pass.now) c.enter-held.result.store c.args.done c.enter-held.ensures.begins c.enter-held.ensures.value.store.appends.head c.enter-held.ensures.value.store.appends.exponent (c.requires.right clear)) c.install-result.ensures.crash (matched c.install-result.result _ _ c.install-result.ensures.installed c.install-result.ensures.refused) in
    let entered = c.enter-held.ensures in
    took g.D.Disk.device _ c.enter-held.result.store c.install-result.new.self c.args.pass.now c.enter-held.new.pass c.leave.new.pass _
    entered.value.store go entered.begins entered.fills_begin entered.found
    (left_by g.D.Disk.device c.published-held.result.0 c.install-result.new.self c.enter-held.new.pass c.leave.new.pass c.published-held.ensures.closing.store c.leave.ensures.left)
    (matched c.install-result.result _ _ c.install-result.ensures.installed c.install-result.ensures.refused)
