use Rattle.std.proofs.Common.{rules, ◌≡◌, ◌++◌, [], ◌∷◌, ◌+◌, ◌-◌, ◌^◌, min, ℕ, List, length, refl, sym, ◌∙◌, ap, subst, arith, length-append}
use Rattle.disk_journal.specs.Format.{framed, written}
use Rattle.disk_journal.specs.Writing.{HasWritten, IsAddRefusal, count_written}
use Rattle.disk_journal.specs.declared.writer.JournalWriter.{JournalWriter}
use Rattle.disk_journal.proofs.Calls.{handed_on}
use Rattle.disk_journal.proofs.Told.{told_on, told_write}
use Rattle.disk_journal.proofs.Writing.{one_written}
use Rattle.disk_journal.proofs.writer.JournalWriter.add.Goals as goal

pub put_more-requires : goal.put_more-requires
put_more-requires g c transparent =
    let w = c.requires.writing transparent in
    let fits = g.D.Disk.device.lengths_fit c.args.disk.now c.args.self.file transparent in
    omega (arith, c.saturating_add-behind.ensures, w.1.end, ap length w.1.content, length-append (written w.0) (1 ∷ []), fits)

pub returns-in_err-put_more-clause-refused : goal.returns-in_err-put_more-clause-refused
returns-in_err-put_more-clause-refused g c =
    let device = g.D.Disk.device in
    let old = c.args.disk.now in
    let new = c.put_more.new.disk in
    let fault = c.in_err-put_more.field-0.0 in
    let e = c.in_err-put_more.ensures in
    let refusal = IsAddRefusal device c.args.self old new in
    handed_on c.from_residual-in_err-put_more.result fault refusal c.from_residual-in_err-put_more.ensures.1
    (subst refusal (sym e.only) (search rules, record { rose = e.cause.failed; writes = e.writes }))

pub returns-in_err-put_more-clause-told : goal.returns-in_err-put_more-clause-told
returns-in_err-put_more-clause-told g c =
    let device = g.D.Disk.device in
    let fault = c.in_err-put_more.field-0.0 in
    told_on device c.from_residual-in_err-put_more.result fault c.args.disk.now c.put_more.new.disk c.from_residual-in_err-put_more.ensures.1
    (told_write device fault c.args.disk.now c.put_more.new.disk c.in_err-put_more.ensures.only)

pub returns-clause-added : goal.returns-clause-added
returns-clause-added g c = record {
  in_file = refl;
  below = search rules;
  count = search rules;
  records = λ transparent bodies has.
      let device = g.D.Disk.device in
      let old = c.args.self in
      let octets = c.before_another-octets.result.items in
      let new : JournalWriter = record { file = old.file; extents = c.push.new.self; end = c.saturating_add-next.result } in
      let done = c.in_ok-put_more.ensures.written transparent ∙ ap (λ (l : List ℕ). device.reads c.args.disk.now old.file ++ l) c.deref.ensures.value in
      let end_is : c.saturating_add-next.result ≡ min (old.end + length octets) (2 ^ 64 - 1) = omega (arith, c.saturating_add-next.ensures, c.len.ensures) in
      one_written device old bodies c.args.disk.now c.put_more.new.disk transparent has new c.args.frame octets c.saturating_add-at.result refl c.before_another-octets.ensures
      (omega (arith, c.len-size.ensures, c.len-size.type_inv)) done c.saturating_add-at.ensures
      (search rules) end_is;
  no_failed_write = c.in_ok-put_more.ensures.writes;
}

pub returns-clause-writing : goal.returns-clause-writing
returns-clause-writing g c transparent =
    let w = c.requires.writing transparent in (_, (returns-clause-added g c).records transparent w.0 w.1)
