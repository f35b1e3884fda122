use Rattle.std.proofs.Common.{◌≡◌, ◌++◌, [], ◌∷◌, ℕ, List, length, refl, sym, ◌∙◌, ap, subst}
use Rattle.std.specs.Prelude.{IsTrue}
use Rattle.arch_disk.specs.Image.{Image}
use Rattle.arch_disk.specs.Disk.{LeavesOthers}
use Rattle.arch_disk.proofs.Moments.{others_on}
use Rattle.disk_journal.specs.Writing.{IsWriteRefusal}
use Rattle.disk_journal.proofs.Calls.{handed_on}
use Rattle.disk_journal.proofs.Told.{told_on, told_write}
use Rattle.disk_journal.proofs.Writing.{failed_behind, others_synced, write_refused}
use Rattle.disk_journal.proofs.writer.JournalWriter.begin.Given.{Over}
use Rattle.disk_journal.proofs.writer.JournalWriter.begin.Goals.{In_ok-flush}
use Rattle.disk_journal.proofs.writer.JournalWriter.begin.Goals as goal

-- behind the cut and the sync the file is empty,
empty_file : (g : Over) (c : In_ok-flush g) → IsTrue g.D.Disk.device.is_transparent → g.D.Disk.device.reads c.flush.new.disk c.args.file ≡ []
empty_file g c transparent = ap (λ (r : Image). r c.args.file) c.in_ok-flush.ensures.reads ∙ c.in_ok-empty.ensures.is_empty transparent

-- and all others are as they were
others : (g : Over) (c : In_ok-flush g) → LeavesOthers g.D.Disk.device c.args.file c.args.disk.now c.flush.new.disk
others g c =
    let device = g.D.Disk.device in
    others_on device c.args.file c.args.disk.now c.empty.new.disk c.flush.new.disk c.in_ok-empty.ensures.others
    (others_synced device c.args.file c.empty.new.disk c.flush.new.disk c.in_ok-flush.ensures.reads c.in_ok-flush.ensures.moments)

pub returns-in_err-empty-clause-refused : goal.returns-in_err-empty-clause-refused
returns-in_err-empty-clause-refused g c =
    let device = g.D.Disk.device in
    let fault = c.in_err-empty.field-0.0 in
    let e = c.in_err-empty.ensures in
    handed_on c.from_residual.result fault (IsWriteRefusal device c.args.disk.now c.empty.new.disk) c.from_residual.ensures.1
    (write_refused device c.args.file fault c.args.disk.now c.empty.new.disk e.only (record { rose = e.cause.failed; writes = e.writes }))

pub returns-in_err-flush-clause-refused : goal.returns-in_err-flush-clause-refused
returns-in_err-flush-clause-refused g c =
    let device = g.D.Disk.device in
    let old = c.args.disk.now in
    let mid = c.empty.new.disk in
    let new = c.flush.new.disk in
    let fault = c.in_err-flush.field-0.0 in
    let was = c.in_ok-empty.ensures in
    let e = c.in_err-flush.ensures in
    handed_on c.from_residual-in_err-flush.result fault (IsWriteRefusal device old new) c.from_residual-in_err-flush.ensures.1
    (write_refused device c.args.file fault old new e.only (failed_behind device c.args.file old mid new was.cause.told was.writes (record { rose = e.cause.failed; writes = e.writes })))

pub returns-in_err-flush-clause-others : goal.returns-in_err-flush-clause-others
returns-in_err-flush-clause-others g c =
    let device = g.D.Disk.device in
    others_on device c.args.file c.args.disk.now c.empty.new.disk c.flush.new.disk c.in_ok-empty.ensures.others
    (others_synced device c.args.file c.empty.new.disk c.flush.new.disk c.in_err-flush.ensures.reads c.in_err-flush.ensures.moments)

pub put_more-requires : goal.put_more-requires
put_more-requires g c transparent =
    sym (ap length (empty_file g (goal.at.put_more-requires g c).In_ok-flush transparent))

pub returns-in_err-put_more-clause-refused : goal.returns-in_err-put_more-clause-refused
returns-in_err-put_more-clause-refused g c =
    let device = g.D.Disk.device in
    let old = c.args.disk.now in
    let mid = c.flush.new.disk in
    let new = c.put_more.new.disk in
    let fault = c.in_err-put_more.field-0.0 in
    let emptied = c.in_ok-empty.ensures in
    let synced = c.in_ok-flush.ensures in
    let e = c.in_err-put_more.ensures in
    handed_on c.from_residual-in_err-put_more.result fault (IsWriteRefusal device old new) c.from_residual-in_err-put_more.ensures.1
    (write_refused device c.args.file fault old new e.only
    (failed_behind device c.args.file old mid new (synced.cause.told ∙ emptied.cause.told) (synced.writes ∙ emptied.writes) (record { rose = e.cause.failed; writes = e.writes })))

pub returns-in_err-put_more-clause-others : goal.returns-in_err-put_more-clause-others
returns-in_err-put_more-clause-others g c =
    others_on g.D.Disk.device c.args.file c.args.disk.now c.flush.new.disk c.put_more.new.disk (others g (goal.at.returns-in_err-put_more-clause-others g c).In_ok-flush) c.in_err-put_more.ensures.others

pub returns-clause-begun : goal.returns-clause-begun
returns-clause-begun g c = record {
  in_file = refl;
  none_written = ap length c.new.ensures.items;
  records = λ transparent. record {
    small = tt;
    extents = c.new.ensures.items;
    end = refl;
    content = c.in_ok-put_more.ensures.written transparent ∙ ap (λ (l : List ℕ). l ++ 1 ∷ []) (empty_file g (goal.at.returns-clause-begun g c).In_ok-flush transparent);
  };
  no_failed_write = c.in_ok-put_more.ensures.writes ∙ c.in_ok-flush.ensures.writes ∙ c.in_ok-empty.ensures.writes;
}

pub returns-clause-writing : goal.returns-clause-writing
returns-clause-writing g c transparent = ([], (returns-clause-begun g c).records transparent)

pub returns-clause-others : goal.returns-clause-others
returns-clause-others g c =
    others_on g.D.Disk.device c.args.file c.args.disk.now c.flush.new.disk c.put_more.new.disk (others g (goal.at.returns-clause-others g c).In_ok-flush) c.in_ok-put_more.ensures.others

pub returns-in_err-empty-clause-told : goal.returns-in_err-empty-clause-told
returns-in_err-empty-clause-told g c =
    let device = g.D.Disk.device in
    let fault = c.in_err-empty.field-0.0 in
    told_on device c.from_residual.result fault c.args.disk.now c.empty.new.disk c.from_residual.ensures.1
    (told_write device fault c.args.disk.now c.empty.new.disk c.in_err-empty.ensures.only)

pub returns-in_err-flush-clause-told : goal.returns-in_err-flush-clause-told
returns-in_err-flush-clause-told g c =
    let device = g.D.Disk.device in
    let fault = c.in_err-flush.field-0.0 in
    told_on device c.from_residual-in_err-flush.result fault c.args.disk.now c.flush.new.disk c.from_residual-in_err-flush.ensures.1
    (told_write device fault c.args.disk.now c.flush.new.disk c.in_err-flush.ensures.only)

pub returns-in_err-put_more-clause-told : goal.returns-in_err-put_more-clause-told
returns-in_err-put_more-clause-told g c =
    let device = g.D.Disk.device in
    let fault = c.in_err-put_more.field-0.0 in
    told_on device c.from_residual-in_err-put_more.result fault c.args.disk.now c.put_more.new.disk c.from_residual-in_err-put_more.ensures.1
    (told_write device fault c.args.disk.now c.put_more.new.disk c.in_err-put_more.ensures.only)
