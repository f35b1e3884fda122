use Rattle.std.proofs.Common.{rules, inl, inr, ⊎_elim, ◌∙◌, ap, sym, subst, length}
use Rattle.arch_disk.specs.declared.call_log.Call.TheVariants.{FailedWrite}
use Rattle.arch_disk.specs.Image.{InFile, Torn}
use Rattle.arch_disk.specs.declared.memory.MemDisk.{MemDisk}
use Rattle.arch_disk.proofs.Noted.{Comes, kept_or_not, write_noted, failed_write_noted, none_noted}
use Rattle.arch_disk.proofs.memory.MemDiskDisk.write_at.Goals.{in-Ok+then-listed, in-Ok+else-listed+else-is_ok, in_default}
use Rattle.arch_disk.proofs.memory.MemDiskDisk.write_at.Goals as goal

pub returns-clause-crash : goal.returns-clause-crash
returns-clause-crash c =
    let past = c.args.self.now.call_log in
    let P = Comes (InFile (Torn c.args.at (length c.args.from.now)) c.args.file) past in
    elim c.match-copy.branch [
      | in-Ok+then-listed w ↦ subst P (sym (ap (λ (m : MemDisk). m.call_log) w.self-is)) (failed_write_noted w.in-Ok.write c.args.file c.args.at c.args.from.now w.in-Ok.ensures w.note.result past w.note.new.self w.note.ensures.ok w.note.ensures.err)
      | in-Ok+else-listed+else-is_ok w ↦ subst P (sym (ap (λ (m : MemDisk). m.call_log) w.self-is)) (write_noted w.in-Ok.write c.args.file c.args.at c.args.from.now w.in-Ok.ensures w.write.result past w.write.new.self w.write.ensures.ok w.write.ensures.err)
      | in_default w ↦ none_noted past c.match-copy.self.call_log c.args.at (length c.args.from.now) c.args.file (ap (λ (m : MemDisk). m.call_log) w.self-is)
    ]

pub returns-then-is_ok-clause-kept : goal.returns-then-is_ok-clause-kept
returns-then-is_ok-clause-kept c = (c.in-Ok.write, c.in-Ok.ensures.0, c.in-Ok.ensures.1, c.in-Ok.ensures.2, search rules)

pub returns-clause-failed : goal.returns-clause-failed
returns-clause-failed c =
    elim c.match-copy.branch [
      | in-Ok+then-listed w ↦
          ⊎_elim
          (λ is. inl (search rules, (w.in-Ok.write, w.in-Ok.ensures.0, w.in-Ok.ensures.1, w.in-Ok.ensures.2, ap (λ (m : MemDisk). m.call_log) w.self-is ∙ is)))
          (λ same. inr (ap (λ (m : MemDisk). m.call_log) w.self-is ∙ same))
          (kept_or_not w.note.result c.args.self.now.call_log w.note.new.self (FailedWrite w.in-Ok.write) w.note.ensures.ok w.note.ensures.err)
      | in-Ok+else-listed+else-is_ok w ↦ inr (search rules)
      | in_default w ↦ inr (ap (λ (m : MemDisk). m.call_log) w.self-is)
    ]
