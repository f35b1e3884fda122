use Rattle.std.proofs.Common.{subst}
use mathlib.Core.List.{IsPrefix}
use Rattle.glance_log.proofs.Prefixes.{prefix_trans}
use Rattle.live_asks.proofs.Sees.{note_sees, note_silent}
use Rattle.live_asks.proofs.glancing.is_shown.Goals as goal

pub returns-in-Ok-clause-shown : goal.returns-in-Ok-clause-shown
returns-in-Ok-clause-shown g c is =
    let note = c.in-Ok.note in
    let follows = c.is_followed_by-in-Ok.ensures is in
    prefix_trans c.args.glance.now.history note.history c.note.new.pass.history.seen
    (subst (λ s. IsPrefix s.history note.history) c.note-in-Ok.ensures follows.history) c.in-Ok.ensures.note.history

pub returns-in-Ok-clause-sees : goal.returns-in-Ok-clause-sees
returns-in-Ok-clause-sees g c = note_sees g.D.Disk.device c.args.live.now.cell.first.store c.args.pass.now c.note.new.pass c.note.ensures.turn

pub returns-in-Ok-clause-silent : goal.returns-in-Ok-clause-silent
returns-in-Ok-clause-silent g c = note_silent g.D.Disk.device c.args.live.now.cell.first.store c.args.pass.now c.note.new.pass c.note.ensures.turn

pub returns-in-Err-clause-sees : goal.returns-in-Err-clause-sees
returns-in-Err-clause-sees g c = note_sees g.D.Disk.device c.args.live.now.cell.first.store c.args.pass.now c.note.new.pass c.note.ensures.turn

pub returns-in-Err-clause-silent : goal.returns-in-Err-clause-silent
returns-in-Err-clause-silent g c = note_silent g.D.Disk.device c.args.live.now.cell.first.store c.args.pass.now c.note.new.pass c.note.ensures.turn
