use Rattle.std.proofs.Common.{ℕ, List, [], sym, ◌∙◌, subst}
use Rattle.std.specs.Prelude.{IsTrue}
use Rattle.disk_journal.specs.Format.{HasRecords, IsDamagedAt}
use Rattle.disk_journal.specs.Reading.{file_read}
use Rattle.disk_journal.specs.State.{HasOnDisk}
use Rattle.disk_journal.proofs.Bodies.{weaker}
use Rattle.disk_journal.proofs.Calls.{records_are}
use Rattle.disk_journal.proofs.Once.{exactly, undamaged, none_not_open}
use Rattle.disk_journal.proofs.Opened.{opened, content_same}
use Rattle.disk_journal.proofs.Told.{told_behind, told_on}
use Rattle.disk_journal.proofs.journal.Journal.open.Goals as goal

pub returns-clause-opened : goal.returns-clause-opened
returns-clause-opened g c =
    let device = g.D.Disk.device in
    let begun = file_read c.in_ok-opening.opening in
    let file = c.args.file in
    let old = c.args.disk.now in
    let mid = c.begin.new.disk in
    let new = c.finish_all.new.disk in
    let b = c.in_ok-opening.ensures.begun in
    weaker c.finish_all.result
    (λ journal read.
    let o = λ (transparent : IsTrue device.is_transparent). opened device journal begun file old mid new b.in_file read.no_pending_fault read.in_file (read.records transparent) c.begin.ensures.untouched.reads_same b.durable c.finish_all.ensures.looked in
    let same = λ (transparent : IsTrue device.is_transparent). records_are device journal (o transparent).0 [] new transparent (o transparent).2 in
    record {
      open_gate = b.open_gate;
      has = λ transparent. subst (HasRecords (device.reads old file)) (sym (same transparent)) (o transparent).1;
      records = λ transparent. subst (λ (l : List (List ℕ)). HasOnDisk device journal l [] new) (sym (same transparent)) (o transparent).2;
      in_file = read.in_file ∙ b.in_file;
      no_pending_fault = read.no_pending_fault;
      no_failed_write = c.finish_all.ensures.looked.no_write ∙ b.no_failed_write;
    })
    c.finish_all.ensures.read

pub returns-clause-decided : goal.returns-clause-decided
returns-clause-decided g c transparent =
    let device = g.D.Disk.device in
    let opening = c.in_ok-opening.opening in
    let file = c.args.file in
    let mid = c.begin.new.disk in
    let new = c.finish_all.new.disk in
    let b = c.in_ok-opening.ensures.begun in
    let same = content_same (device.reads mid) (device.reads c.args.disk.now) (file_read opening) file c.begin.ensures.untouched.reads_same b.in_file in
    let e = c.finish_all.ensures in
    record {
      none = λ none. absurd (none_not_open (device.reads c.args.disk.now file) none (b.open_gate transparent));
      damaged = λ at begins damaged. exactly device opening mid new transparent at c.finish_all.result (subst (λ (l : List ℕ). IsDamagedAt l at) (sym same) damaged) e.read e.refused;
      records = λ bodies begins has. undamaged device opening mid new transparent bodies c.finish_all.result (subst (λ (l : List ℕ). HasRecords l bodies) (sym same) has) e.refused;
    }

pub returns-in_err-opening-clause-told : goal.returns-in_err-opening-clause-told
returns-in_err-opening-clause-told g c =
    told_on g.D.Disk.device c.from_residual.result c.in_err-opening.field-0.0 c.args.disk.now c.begin.new.disk c.from_residual.ensures.1 c.in_err-opening.ensures.told.refused

pub returns-clause-told : goal.returns-clause-told
returns-clause-told g c =
    told_behind g.D.Disk.device c.finish_all.result c.args.disk.now c.begin.new.disk c.finish_all.new.disk c.in_ok-opening.ensures.told.done c.finish_all.ensures.told
