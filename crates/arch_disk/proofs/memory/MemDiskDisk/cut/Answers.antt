use Rattle.std.proofs.Common.{ap, sym, subst}
use Rattle.arch_disk.specs.Image.{InFile, Shortened}
use Rattle.arch_disk.specs.declared.memory.MemDisk.{MemDisk}
use Rattle.arch_disk.proofs.Noted.{Comes, cut_noted, failed_cut_noted}
use Rattle.arch_disk.proofs.memory.MemDiskDisk.cut.Goals.{then-next_is_listed, else-next_is_listed+else-is_ok}
use Rattle.arch_disk.proofs.memory.MemDiskDisk.cut.Goals as goal

pub returns-clause-crash : goal.returns-clause-crash
returns-clause-crash c =
    let past = c.args.self.now.call_log in
    let P = Comes (InFile (Shortened c.args.len) c.args.file) past in
    elim c.if-next_is_listed.branch [
      | then-next_is_listed w ↦ subst P (sym (ap (λ (m : MemDisk). m.call_log) w.self-is)) (failed_cut_noted w.note.result past w.note.new.self c.args.file c.args.len w.note.ensures.ok w.note.ensures.err)
      | else-next_is_listed+else-is_ok w ↦ subst P (sym (ap (λ (m : MemDisk). m.call_log) w.self-is)) (cut_noted w.cut.result past w.cut.new.self c.args.file c.args.len w.cut.ensures.ok w.cut.ensures.err)
    ]
