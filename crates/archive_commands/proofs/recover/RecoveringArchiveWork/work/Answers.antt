use Rattle.std.proofs.Common.{◌≡◌, ◌∙◌, inl, ℕ, false, ◌++◌, Some, length, refl, sym, ap, subst, arith}
use Rattle.std.specs.Prelude.{IsTrue, codes, decimal}
use Rattle.history_items.specs.Fills.{pending_fault_of}
use Rattle.history_items.specs.Items.{rows_in}
use Rattle.interval_walks.specs.Counts.{late_intervals}
use Rattle.store_fills.proofs.Faults.{faults_in-done, pending_fault_of-in}
use Rattle.archive_store.specs.StoreView.{filled_of}
use Rattle.archive_store.specs.LateFills.{late_in_archive}
use Rattle.command_runs.specs.Finishing.{IsFinished}
use Rattle.command_runs.specs.Command.{effects_of}
use Rattle.load_session.specs.Filling.{AllLateFilled, IsFillingRefusal, filling_refusal}
use Rattle.command_runs.specs.ArchiveWork.{known_of}
use Rattle.command_runs.proofs.ReadFaults.{none_notes}
use Rattle.command_runs.proofs.Reading.{tells_so}
use Rattle.archive_commands.specs.Recover.{recover_line}
use Rattle.command_runs.specs.Report.{read_only}
use Rattle.command_runs.proofs.FilledDisks.{failed_disk, filled_disk, idle_done, late_as_filled, log_near, unfailed_disk, unread_disk}
use Rattle.command_runs.proofs.ReadOnly.{none_failed, still_opened, unchanged_by}
use Rattle.archive_commands.proofs.Recovered.{ran_recovered, ran_unrecovered}
use Rattle.command_runs.proofs.During.{IsOpened, opened_store}
use Rattle.archive_commands.proofs.recover.RecoveringArchiveWork.work.Goals as goal

pub fill_late-requires : goal.fill_late-requires
fill_late-requires g c = idle_done c.args.store.fills c.requires.opened.1.opened.fills

-- each late interval was filled
pub returns-in-Ok : goal.returns-in-Ok
returns-in-Ok g c = λ disk new on heals after.
    let device = g.D.Disk.device in
    let s = c.args.store in
    let front = c.front-front.ensures in
    let kept = c.is_kept.ensures in
    let mid = c.fill_late.new.store in
    let left = c.fill_late.ensures.left in
    let filled = c.in-Ok.filled in
    let done : AllLateFilled device s mid filled = c.in-Ok.ensures.filled in
    let refusal = c.finish-refusal.result in
    let report = c.read_only.result in
    let output = g.K.Sink.state c.args.sink.now in
    let output' = g.K.Sink.state c.finish-refusal.new.sink in
    let went = effects_of disk new.disk output output' report in
    let late = length (late_in_archive (filled_of s)) in
    let as_late : length (late_intervals s.exponent s.history s.fills) ≡ late = ap length (late_as_filled (filled_of s) s.fills kept.bases) in
    let as_filled : filled ≡ late = done.count ∙ as_late in
    let is : report ≡ read_only refusal (length s.history) = c.read_only.ensures ∙ ap (read_only refusal) front in
    let line : c.put_recovered.new.line_buffer ≡ recover_line (filled_of s) =
    c.put_recovered.ensures ∙ ap (λ (n : ℕ). codes "recovered rows " ++ decimal n ++ codes " filled " ++ decimal filled ++ codes "\n") c.row_count-rows.ensures
    ∙ ap (λ (n : ℕ). codes "recovered rows " ++ decimal (length (rows_in s.history)) ++ codes " filled " ++ decimal n ++ codes "\n") as_filled in
    let text = subst (IsFinished refusal output output') line c.finish-refusal.ensures in
    let opened : IsTrue device.is_transparent → IsOpened device disk s = λ known. opened_store device disk s (on.opened.filled known) on.reads on.opened.opening on.crash in
    let no_fault = faults_in-done s.fills on.opened.fills in
    let outcome =
    filled_disk device disk s s mid new opened on.counts.faults refl refl refl (λ known i. inl refl) left heals after.images after.faults after.kept false (none_notes s.fills no_fault) on.opened.no_fault on.opened.no_failed_write
    filled done (λ known. after.bases) in
    let still = still_opened device disk s new on kept as_late (unchanged_by device s mid new no_fault left.unchanged heals) in
    ran_recovered device went (known_of device disk) s mid (tells_so device s) on.opened.records as_late still refusal text is outcome (ap (filling_refusal s.records) (sym as_filled) ∙ done.fits)

-- not each was
pub returns-in-Err : goal.returns-in-Err
returns-in-Err g c = λ disk new on heals after.
    let device = g.D.Disk.device in
    let s = c.args.store in
    let front = c.front-front.ensures in
    let kept = c.is_kept.ensures in
    let mid = c.fill_late.new.store in
    let left = c.fill_late.ensures.left in
    let refusal = c.in-Err.refusal in
    let refused : IsFillingRefusal device s mid refusal = c.in-Err.ensures.refused in
    let report = c.read_only-in-Err.result in
    let output = g.K.Sink.state c.args.sink.now in
    let went = effects_of disk new.disk output output report in
    let as_late : length (late_intervals s.exponent s.history s.fills) ≡ length (late_in_archive (filled_of s)) = ap length (late_as_filled (filled_of s) s.fills kept.bases) in
    let is : report ≡ read_only (Some refusal) (length s.history) = c.read_only-in-Err.ensures ∙ ap (read_only (Some refusal)) front in
    let opened : IsTrue device.is_transparent → IsOpened device disk s = λ known. opened_store device disk s (on.opened.filled known) on.reads on.opened.opening on.crash in
    let no_fault = faults_in-done s.fills on.opened.fills in
    let notes = none_notes s.fills no_fault in
    let healed = pending_fault_of-in s.fills ∙ ap pending_fault_of no_fault in
    let still = still_opened device disk s new on kept as_late (unchanged_by device s mid new no_fault left.unchanged heals) in
    ran_unrecovered device went (known_of device disk) s mid (tells_so device s) on.opened.records as_late still refl healed (none_failed device s mid on.opened.fills as_late left.unchanged)
    (unfailed_disk device disk s s mid new opened on.counts.faults refl refl refl (λ known i. inl refl) left heals after.images after.faults after.kept false notes on.opened.no_fault on.opened.no_failed_write)
    (failed_disk device disk s s mid new opened on.counts.faults refl refl refl (λ known i. inl refl) left heals after.images after.faults after.kept false notes on.opened.no_fault on.opened.no_failed_write)
    (unread_disk device disk s s mid new opened on.counts.faults refl refl refl (λ known i. inl refl) left heals after.images after.faults after.kept false notes on.opened.no_fault on.opened.no_failed_write)
    (λ reaches. log_near device mid new heals after.records 0 (omega (arith, reaches)))
    refusal refused is
