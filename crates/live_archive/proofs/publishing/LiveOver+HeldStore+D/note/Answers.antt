use Rattle.std.proofs.Common.{false, refl}
use Rattle.live_archive.proofs.Going.{goes_start}
use Rattle.live_archive.proofs.Shelving.{held_beside, notes_in, notes_log, notes_of}
use Rattle.live_archive.proofs.Turning.{leaving_published, left_by, took}
use Rattle.live_archive.proofs.publishing.LiveOver+HeldStore+D.note.Goals as goal

pub published-held-requires : goal.published-held-requires
published-held-requires g c =
    record { beside = held_beside g.D.Disk.device _ c.enter-held.result c.enter-held.result.store c.enter-held.ensures.value (goes_start g.D.Disk.device c.enter-held.result.store); last = c.enter-held.ensures.value.last }

pub leave-requires : goal.leave-requires
leave-requires g c =
    let go = goes_start g.D.Disk.device c.enter-held.result.store in
    let published = c.published-held.ensures in
    let left = leaving_published g.D.Disk.device _ c.enter-held.result c.published-held.result.0 c.enter-held.result.store c.args.pass.now c.enter-held.new.pass c.enter-held.ensures.value go refl published.closing published.shelf published.last c.enter-held.ensures.found in
    record { turn = c.enter-held.ensures.turn; begins = left.begins; fills_begin = left.fills_begin; value = left.value }

pub returns-clause-turn : goal.returns-clause-turn
returns-clause-turn g c =
    let go = goes_start g.D.Disk.device c.enter-held.result.store in
    let entered = c.enter-held.ensures in
    took g.D.Disk.device _ c.enter-held.result.store c.enter-held.result.store c.args.pass.now c.enter-held.new.pass c.leave.new.pass _
    entered.value.store go entered.begins entered.fills_begin entered.found
    (left_by g.D.Disk.device c.published-held.result.0 c.enter-held.result.store c.enter-held.new.pass c.leave.new.pass c.published-held.ensures.closing.store c.leave.ensures.left)
    (refl, notes_in g.D.Disk.device c.args.self.now.cell.first c.enter-held.result c.published-held.result.0.shelf c.published-held.result.1 entered.value c.published-held.ensures.note)

pub returns-clause-log : goal.returns-clause-log
returns-clause-log g c =
    notes_log false c.args.self.now.cell.first c.enter-held.result.store c.published-held.result.1 (notes_in g.D.Disk.device c.args.self.now.cell.first c.enter-held.result c.published-held.result.0.shelf c.published-held.result.1 c.enter-held.ensures.value c.published-held.ensures.note)

pub returns-clause-note : goal.returns-clause-note
returns-clause-note g c =
    notes_of c.args.self.now.cell.first c.enter-held.result.store c.published-held.result.1 c.enter-held.new.pass c.leave.new.pass
    (left_by g.D.Disk.device c.published-held.result.0 c.enter-held.result.store c.enter-held.new.pass c.leave.new.pass c.published-held.ensures.closing.store c.leave.ensures.left)
    (notes_in g.D.Disk.device c.args.self.now.cell.first c.enter-held.result c.published-held.result.0.shelf c.published-held.result.1 c.enter-held.ensures.value c.published-held.ensures.note)
