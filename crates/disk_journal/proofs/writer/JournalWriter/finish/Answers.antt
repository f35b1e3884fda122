use Rattle.std.proofs.Common.{[], ◌∷◌, length, refl, ap, arith, length-append}
use Rattle.disk_journal.specs.Format.{written}
use Rattle.disk_journal.specs.Writing.{IsWriteRefusal}
use Rattle.disk_journal.proofs.Calls.{handed_on}
use Rattle.disk_journal.proofs.Told.{told_on, told_write}
use Rattle.disk_journal.proofs.Writing.{all_written, others_put, write_refused}
use Rattle.disk_journal.proofs.writer.JournalWriter.finish.Goals as goal

pub put-requires : goal.put-requires
put-requires g c transparent =
    let w = c.requires.writing transparent in
    omega (arith, w.1.end, ap length w.1.content, length-append (written w.0) (1 ∷ []))

pub returns-in_err-put-clause-refused : goal.returns-in_err-put-clause-refused
returns-in_err-put-clause-refused g c =
    let device = g.D.Disk.device in
    let old = c.args.disk.now in
    let new = c.put.new.disk in
    let fault = c.in_err-put.field-0.0 in
    let e = c.in_err-put.ensures in
    handed_on c.from_residual.result fault (IsWriteRefusal device old new) c.from_residual.ensures.1
    (write_refused device c.args.self.file fault old new e.only (record { rose = e.cause.failed; writes = e.writes }))

pub returns-in_err-put-clause-others : goal.returns-in_err-put-clause-others
returns-in_err-put-clause-others g c =
    let e = c.in_err-put.ensures in others_put g.D.Disk.device c.args.self.file c.args.disk.now c.put.new.disk _ _ e.reads e.moments

pub returns-in_err-put-clause-told : goal.returns-in_err-put-clause-told
returns-in_err-put-clause-told g c =
    let device = g.D.Disk.device in
    let fault = c.in_err-put.field-0.0 in
    told_on device c.from_residual.result fault c.args.disk.now c.put.new.disk c.from_residual.ensures.1 (told_write device fault c.args.disk.now c.put.new.disk c.in_err-put.ensures.only)

pub returns-clause-finished : goal.returns-clause-finished
returns-clause-finished g c = record {
  in_file = refl;
  count = refl;
  no_pending_fault = refl;
  records = λ transparent bodies has.
      all_written g.D.Disk.device c.args.self bodies c.args.disk.now c.put.new.disk transparent has (c.in_ok-put.ensures.written transparent).here c.in_ok-put.ensures.durable;
  no_failed_write = c.in_ok-put.ensures.writes;
}

pub returns-clause-sound : goal.returns-clause-sound
returns-clause-sound g c transparent =
    let w = c.requires.writing transparent in record { bodies = w.0; pending = []; keeps = (returns-clause-finished g c).records transparent w.0 w.1 }

pub returns-clause-others : goal.returns-clause-others
returns-clause-others g c =
    let e = c.in_ok-put.ensures in others_put g.D.Disk.device c.args.self.file c.args.disk.now c.put.new.disk _ _ e.reads e.moments
