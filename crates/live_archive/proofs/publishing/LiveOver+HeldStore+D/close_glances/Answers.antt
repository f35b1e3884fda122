use Rattle.std.proofs.Common.{true}
use Rattle.live_archive.proofs.Going.{goes_start}
use Rattle.live_archive.proofs.Shelving.{goes_last, held_beside, last_notes, last_notes_closed, last_notes_of, last_says, notes_log, took_or_not}
use Rattle.live_archive.proofs.Turning.{leaving_last, took}
use Rattle.live_archive.proofs.publishing.LiveOver+HeldStore+D.close_glances.Goals as goal

pub published_last-held-requires : goal.published_last-held-requires
published_last-held-requires g c =
    record { beside = held_beside g.D.Disk.device _ c.enter-held.result c.enter-held.result.store c.enter-held.ensures.value (goes_start g.D.Disk.device c.enter-held.result.store); last = c.enter-held.ensures.value.last }

pub leave-requires : goal.leave-requires
leave-requires g c =
    let published = c.published_last-held.ensures in
    let took = took_or_not g.D.Disk.device _ c.enter-held.result c.published_last-held.result.0 c.enter-held.ensures.value c.published_last-held.result.1 published.closed published.refused in
    let left = leaving_last g.D.Disk.device _ c.enter-held.result c.published_last-held.result.0 c.args.pass.now c.enter-held.new.pass c.enter-held.ensures.value took published.shelf published.last c.enter-held.ensures.found in
    record { turn = c.enter-held.ensures.turn; begins = left.begins; fills_begin = left.fills_begin; value = left.value }

pub returns-clause-turn : goal.returns-clause-turn
returns-clause-turn g c =
    let entered = c.enter-held.ensures in
    let published = c.published_last-held.ensures in
    let either = took_or_not g.D.Disk.device _ c.enter-held.result c.published_last-held.result.0 entered.value c.published_last-held.result.1 published.closed published.refused in
    let go = goes_last g.D.Disk.device _ c.enter-held.result c.published_last-held.result.0 entered.value either in
    took g.D.Disk.device _ c.enter-held.result.store c.published_last-held.result.0.store c.args.pass.now c.enter-held.new.pass c.leave.new.pass _
    entered.value.store go entered.begins entered.fills_begin entered.found c.leave.ensures.left
    (last_says g.D.Disk.device _ c.enter-held.result c.published_last-held.result.0 entered.value c.published_last-held.result.1 published.closed published.refused published.note)

pub returns-clause-log : goal.returns-clause-log
returns-clause-log g c =
    let published = c.published_last-held.ensures in
    let says = last_says g.D.Disk.device _ c.enter-held.result c.published_last-held.result.0 c.enter-held.ensures.value c.published_last-held.result.1 published.closed published.refused published.note in
    notes_log true c.args.self.now.cell.first c.published_last-held.result.0.store c.published_last-held.result.1
    (last_notes c.args.self.now.cell.first c.enter-held.result.store c.published_last-held.result.0.store _ c.published_last-held.result.1 says)

pub returns-clause-last : goal.returns-clause-last
returns-clause-last g c =
    let published = c.published_last-held.ensures in
    let says = last_says g.D.Disk.device _ c.enter-held.result c.published_last-held.result.0 c.enter-held.ensures.value c.published_last-held.result.1 published.closed published.refused published.note in
    last_notes_closed c.args.self.now.cell.first c.enter-held.result.store c.published_last-held.result.0.store _ c.published_last-held.result.1 says

pub returns-clause-note : goal.returns-clause-note
returns-clause-note g c =
    let published = c.published_last-held.ensures in
    let says = last_says g.D.Disk.device _ c.enter-held.result c.published_last-held.result.0 c.enter-held.ensures.value c.published_last-held.result.1 published.closed published.refused published.note in
    last_notes_of c.args.self.now.cell.first c.enter-held.result.store c.published_last-held.result.0.store _ c.published_last-held.result.1 c.enter-held.new.pass c.leave.new.pass c.leave.ensures.left says
