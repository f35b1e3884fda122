-- How the plan of `recover` goes.
use Rattle.std.proofs.Common.{◌≡◌, inl, inr, ℕ, zero, suc, ◌≤◌, false, true, List, [], length, Option, Some, None, refl, sym, ◌∙◌, ap}
use Rattle.std.specs.Prelude.{IsTrue}
use Rattle.std.proofs.lemmas.List.{nil_from_length}
use Rattle.arch_disk.specs.Disk.{Device}
use Rattle.refusals.specs.declared.refusal.Refusal.{Refusal}
use Rattle.refusals.specs.declared.refusal.Refusal.TheVariants.{Damaged, DiskFault, Limit, NeedsReopen, OutOfMemory}
use Rattle.refusals.specs.declared.refusal.Which.TheVariants.{Records}
use Rattle.refusals.specs.Limits.{limit_of}
use Rattle.interval_walks.specs.Counts.{late_intervals}
use Rattle.archive_store.specs.Entries.{FilledArchive}
use Rattle.archive_store.specs.StoreView.{StoreView, filled_of}
use Rattle.command_plans.specs.Plan.{OfMemory, CommandPlan, EachEnd, Interrupted, IsDetermined}
use Rattle.command_plans.proofs.Plans.{determined, each_end}
use Rattle.command_runs.specs.Finishing.{IsFinished}
use Rattle.command_runs.specs.Command.{AllFilled, Effects, Extended, FillingFailed, HasDiskOutcome, Opened, Progress, Ran, archive_opened, opening_plan, printing_plan}
use Rattle.history_items.specs.Fills.{pending_fault_of}
use Rattle.load_session.specs.Filling.{IsFillFailed, IsFillUnread, IsFillingRefusal, IsUnfailed, filling_refusal}
use Rattle.command_runs.specs.Causes.{IsLogNear}
use Rattle.command_runs.specs.ArchiveWork.{KnownOfDisk, known_of}
use Rattle.command_runs.specs.FillingPlan.{IsFullFor, all_filled}
use Rattle.command_runs.specs.Reading.{OnPages}
use Rattle.archive_store.specs.Pages.{TellsRows}
use Rattle.archive_commands.specs.Recover.{archive_with_fills, late_plan, recover_line, recover_plan, recovering_plan}
use Rattle.command_runs.specs.Report.{read_only}
use Rattle.command_runs.proofs.Commands.{no_text, ran_later, ran_printed}
use Rattle.command_runs.proofs.FillingPlan.{filling_determined, filling_reads, limit_filling, ran_all_filled, ran_unfilled, room_filling}
use Rattle.command_runs.proofs.Openings.{opening_reads, opens_determined}
use Rattle.command_runs.proofs.OverInputs.{HasRead}
use Rattle.archive_store.specs.LateFills.{late_in_archive}

-- what follows the fills
abbrev line_next : FilledArchive → CommandPlan Progress ⊥
line_next filled = printing_plan (all_filled filled filled.plain.history (archive_with_fills filled)) (recover_line filled)

late_determined : (known : KnownOfDisk) → known.Tells → (filled : FilledArchive) (late : ℕ) → IsDetermined (late_plan known filled late)
late_determined known tells filled zero = tt
late_determined known tells filled (suc late) =
    filling_determined (OnPages known.Tells) (IsFullFor known.Recorded (suc late)) filled filled.plain.history (archive_with_fills filled) (line_next filled) tells tt

late_reads : (known : KnownOfDisk) (filled : FilledArchive) (late : ℕ) → EachEnd (HasRead 0) (late_plan known filled late)
late_reads known filled zero = ((refl, refl), ((refl, refl), (refl, refl)))
late_reads known filled (suc late) =
    filling_reads (OnPages known.Tells) (IsFullFor known.Recorded (suc late)) filled filled.plain.history (archive_with_fills filled) (line_next filled) 0 (refl, refl) ((refl, refl), (refl, refl))

module _ {D : Type 0} (device : Device D) (disk : D) where
  -- one answer is due
  pub recover_determined : IsTrue device.is_transparent → IsDetermined (recover_plan device disk)
  recover_determined told =
      determined (opening_plan 0 device disk) (recovering_plan (known_of device disk)) (opens_determined 0 device disk told) (λ filled. late_determined (known_of device disk) told filled (length (late_in_archive filled)))

  -- nothing is asked of the inputs
  pub recover_reads : EachEnd (HasRead 0) (recover_plan device disk)
  recover_reads = (
    (refl, refl),
    each_end (HasRead 0) (opening_plan 0 device disk) (recovering_plan (known_of device disk)) (opening_reads 0 device disk) (λ filled. late_reads (known_of device disk) filled (length (late_in_archive filled))),
  )

-- ---- an archive was opened

module _ {D : Type 0} (device : Device D) (e : Effects D) (known : KnownOfDisk) (old mid : StoreView D) (told : known.Tells → TellsRows device old) (recorded : known.Recorded old.records)
    (as_filled : length (late_intervals old.exponent old.history old.fills) ≡ length (late_in_archive (filled_of old)))
    (still : length (late_in_archive (filled_of old)) ≡ 0 → HasDiskOutcome device e.disk e.disk' false (Opened (filled_of old))) where
  abbrev line : List ℕ
  line = recover_line (filled_of old)

  abbrev st : Progress
  st = archive_with_fills (filled_of old)

  -- each late interval was filled
  module _ (refusal : Option Refusal) (text : IsFinished refusal e.output e.output' line) (report : e.report ≡ read_only refusal (length old.history))
      (disk : HasDiskOutcome device e.disk e.disk' false (AllFilled (filled_of old) old.history)) where
    filled_by : (late : ℕ) → length (late_in_archive (filled_of old)) ≡ late → filling_refusal old.records late ≡ None → Ran device (late_plan known (filled_of old) late) e
    filled_by zero none fits =
        let s = archive_opened 0 (filled_of old) in
        ran_later device e OfMemory s (printing_plan s line) (ran_printed device e s line refusal refl refl (refl, refl) text report (still none))
    filled_by (suc late) is fits =
        let end = all_filled (filled_of old) old.history st in
        ran_all_filled (OnPages known.Tells) (IsFullFor known.Recorded (suc late)) (filled_of old) old.history st (printing_plan end line) device e (old.records, recorded, sym (room_filling old.records late fits))
        (ran_printed device e end line refusal refl refl (refl, refl) text report disk)

    pub ran_recovered : filling_refusal old.records (length (late_in_archive (filled_of old))) ≡ None → Ran device (recovering_plan known (filled_of old)) e
    ran_recovered fits = filled_by (length (late_in_archive (filled_of old))) refl fits

  -- not each was
  module _ (silent : e.output' ≡ e.output) (healed : pending_fault_of old.fills ≡ None) (none_failed : length (late_in_archive (filled_of old)) ≡ 0 → IsFillFailed device old mid → ⊥)
      (unfailed : IsUnfailed device old mid → HasDiskOutcome device e.disk e.disk' false (Extended (filled_of old) old.history))
      (failed : IsFillFailed device old mid → HasDiskOutcome device e.disk e.disk' true (FillingFailed (filled_of old) old.history))
      (unread : IsFillUnread device old mid → HasDiskOutcome device e.disk e.disk' true (Extended (filled_of old) old.history))
      (near : limit_of Records ≤ mid.records → IsLogNear device e.disk' (Some 0)) where
    none_is : length (late_in_archive (filled_of old)) ≡ 0 → late_intervals old.exponent old.history old.fills ≡ []
    none_is none = nil_from_length (late_intervals old.exponent old.history old.fills) (as_filled ∙ none)

    -- where none is late memory was wanting
    none_to_fill : (refusal : Refusal) → length (late_in_archive (filled_of old)) ≡ 0 → IsFillingRefusal device old mid refusal
        → e.report ≡ read_only (Some refusal) (length old.history) → Ran device (late_plan known (filled_of old) 0) e
    none_to_fill OutOfMemory none r report = record {
      way = Interrupted (archive_opened 0 (filled_of old)) OfMemory;
      allows = inl refl;
      did = record { report = report; printed = rw silent (no_text e.output.written); output = record { counted = rw silent refl }; disk = still none; log = tt; pending = tt };
    }
    none_to_fill (NeedsReopen faults) none r report = let pending = r.0 in absurd (cc (healed, pending))
    none_to_fill (Limit which number) none r report =
        let never : ◌≡◌ {A = Option Refusal} (Some (Limit which number)) None = sym r.0 ∙ ap (filling_refusal old.records) (as_filled ∙ none) in absurd (cc (never))
    none_to_fill DiskFault none (inl r) report = absurd (none_failed none r)
    none_to_fill DiskFault none (inr r) report = absurd (r.late (none_is none))
    none_to_fill (Damaged file at) none r report = absurd (r.3 (none_is none))
    none_to_fill _ none r report = absurd r

    unfilled_by : (late : ℕ) → length (late_in_archive (filled_of old)) ≡ late → (refusal : Refusal) → IsFillingRefusal device old mid refusal
        → e.report ≡ read_only (Some refusal) (length old.history) → Ran device (late_plan known (filled_of old) late) e
    unfilled_by zero none refusal r report = none_to_fill refusal none r report
    unfilled_by (suc late) is refusal r report =
        ran_unfilled (filled_of old) old.history st device e old mid healed refl
        (rw silent (no_text e.output.written)) (record { counted = rw silent refl }) unfailed failed unread (OnPages known.Tells) told (IsFullFor known.Recorded (suc late)) (line_next (filled_of old)) (refl, refl)
        (λ other full. (old.records, recorded, sym (limit_filling old.records (suc late) other (ap (filling_refusal old.records) (sym (as_filled ∙ is)) ∙ full)).1)) near refusal r report

    pub ran_unrecovered : (refusal : Refusal) → IsFillingRefusal device old mid refusal → e.report ≡ read_only (Some refusal) (length old.history)
        → Ran device (recovering_plan known (filled_of old)) e
    ran_unrecovered = unfilled_by (length (late_in_archive (filled_of old))) refl
