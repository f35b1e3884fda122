use Rattle.std.proofs.Common.{[], ℕ, inr, refl, sym, subst, arith}
use Rattle.std.specs.Prelude.{true}
use Rattle.arch_disk.proofs.Moments.{others_on}
use Rattle.arch_disk.specs.Disk.{LeavesOthers}
use Rattle.disk_journal.specs.Calls.{IsJournalCreateRefusal}
use Rattle.disk_journal.specs.Format.{HoldsNone}
use Rattle.disk_journal.specs.declared.fault.JournalFault.TheVariants.{DiskFault}
use Rattle.disk_journal.proofs.Appending.{keeps_same}
use Rattle.disk_journal.proofs.Calls.{handed_on, not_prepared}
use Rattle.disk_journal.proofs.Told.{told_on, told_write}
use Rattle.disk_journal.proofs.journal.Journal.create.Goals as goal

pub append_first-requires-clause-kept : goal.append_first-requires-clause-kept
append_first-requires-clause-kept g c is_transparent =
    let device = g.D.Disk.device in
    keeps_same device _ c.reserve.new.self [] [] c.prepare.new.disk c.reserve.ensures.same (record { extents = c.new.ensures.items; end = refl; state = c.in_ok-prepare.ensures.ready is_transparent })

pub returns-in_err-prepare-clause-refused : goal.returns-in_err-prepare-clause-refused
returns-in_err-prepare-clause-refused g c =
    let device = g.D.Disk.device in
    let fault = c.in_err-prepare.field-0.0 in
    let e = c.in_err-prepare.ensures in
    handed_on c.from_residual-in_err-prepare.result fault (IsJournalCreateRefusal device c.args.file c.args.disk.now c.prepare.new.disk) c.from_residual-in_err-prepare.ensures.1
    (not_prepared device c.args.file c.args.disk.now c.prepare.new.disk fault e.refused (λ transparent is. e.exists transparent (cc (is))) e.moments)

pub returns-in_err-append_first-clause-refused : goal.returns-in_err-append_first-clause-refused
returns-in_err-append_first-clause-refused g c =
    let device = g.D.Disk.device in
    let e = c.in_err-append_first.ensures in
    let later = c.prepare.ensures.later in
    let writes = c.in_ok-prepare.ensures.no_failed_write in
    let refusal = IsJournalCreateRefusal device c.args.file c.args.disk.now c.append_first.new.disk in
    let failed : refusal (DiskFault true) = (
      record {
        rose = omega (arith, later, e.cause.failed);
        wrote_most = omega (arith, writes, e.counted.1);
        closed = λ few transparent none c' left. inr (subst (λ (f : ℕ). HoldsNone (c' f)) c.reserve.ensures.same.file (e.closed transparent (omega (arith, few, later)) c' left));
      },
      omega (arith, writes, e.counted.0),
    ) in
    handed_on c.from_residual-in_err-append_first.result c.in_err-append_first.field-0.0 refusal c.from_residual-in_err-append_first.ensures.1 (subst refusal (sym e.only) failed)

pub returns-in_err-append_first-clause-others : goal.returns-in_err-append_first-clause-others
returns-in_err-append_first-clause-others g c =
    let device = g.D.Disk.device in
    others_on device c.args.file c.args.disk.now c.prepare.new.disk c.append_first.new.disk c.prepare.ensures.others
    (subst (λ (f : ℕ). LeavesOthers device f c.prepare.new.disk c.append_first.new.disk) c.reserve.ensures.same.file c.append_first.ensures.others)

pub returns-clause-others : goal.returns-clause-others
returns-clause-others g c =
    let device = g.D.Disk.device in
    others_on device c.args.file c.args.disk.now c.prepare.new.disk c.append_first.new.disk c.prepare.ensures.others
    (subst (λ (f : ℕ). LeavesOthers device f c.prepare.new.disk c.append_first.new.disk) c.reserve.ensures.same.file c.append_first.ensures.others)

pub returns-in_err-prepare-clause-told : goal.returns-in_err-prepare-clause-told
returns-in_err-prepare-clause-told g c =
    told_on g.D.Disk.device c.from_residual-in_err-prepare.result c.in_err-prepare.field-0.0 c.args.disk.now c.prepare.new.disk c.from_residual-in_err-prepare.ensures.1 c.in_err-prepare.ensures.told.refused

pub returns-in_err-append_first-clause-told : goal.returns-in_err-append_first-clause-told
returns-in_err-append_first-clause-told g c =
    let device = g.D.Disk.device in
    let fault = c.in_err-append_first.field-0.0 in
    told_on device c.from_residual-in_err-append_first.result fault c.args.disk.now c.append_first.new.disk c.from_residual-in_err-append_first.ensures.1
    (told_write device fault c.args.disk.now c.append_first.new.disk c.in_err-append_first.ensures.only)
