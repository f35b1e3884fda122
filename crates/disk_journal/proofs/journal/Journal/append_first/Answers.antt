use Rattle.std.proofs.Common.{[], ℕ, subst, arith}
use Rattle.arch_disk.specs.Disk.{LeavesOnly, LeavesOthers}
use Rattle.arch_disk.proofs.Moments.{joins, others_on}
use Rattle.disk_journal.specs.Format.{IsBeforeOrAfter}
use Rattle.disk_journal.specs.State.{file_of}
use Rattle.disk_journal.proofs.Calls.{append_crash_on, append_failed_on, heal_crash_on, refusal_failed}
use Rattle.disk_journal.proofs.journal.Journal.append_first.Goals as goal

pub returns-in-Err-clause-any_moment : goal.returns-in-Err-clause-any_moment
returns-in-Err-clause-any_moment g c transparent =
    let device = g.D.Disk.device in
    let old = c.args.disk.now in
    let mid = c.append.new.disk in
    let first = c.args.first.now in
    let keeps = c.requires.kept transparent in
    let failed = refusal_failed device c.args.self.now c.append.new.self old mid first c.in-Err.fault c.requires.no_pending_fault.0 (omega (arith, c.requires.no_pending_fault.1)) c.in-Err.ensures.refused in
    let then = append_failed_on device c.args.self.now [] [] old transparent keeps c.append.new.self mid first failed.1 in
    joins device old mid c.heal.new.disk _ _
    (append_crash_on device c.args.self.now [] [] old transparent keeps mid first (c.append.ensures.crash c.requires.no_pending_fault.0))
    (subst (λ (f : ℕ). LeavesOnly device mid c.heal.new.disk (λ c'. IsBeforeOrAfter [] first (c' f))) c.append.ensures.file
    (heal_crash_on device c.append.new.self [] first mid transparent then c.heal.new.disk c.heal.ensures.crash))
    (λ c' has. has)

pub returns-in-Err-clause-others : goal.returns-in-Err-clause-others
returns-in-Err-clause-others g c =
    let device = g.D.Disk.device in
    others_on device (file_of c.args.self.now) c.args.disk.now c.append.new.disk c.heal.new.disk c.append.ensures.others
    (subst (λ (f : ℕ). LeavesOthers device f c.append.new.disk c.heal.new.disk) c.append.ensures.file c.heal.ensures.others)
