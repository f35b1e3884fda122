-- How the parts of plans go.
use Rattle.std.proofs.Common.{◌≡◌, inl, inr, ℕ, true, false, List, [], Option, Some, None, refl, sym, ap, subst, append-nil, arith}
use Rattle.std.specs.Prelude.{IsTrue}
use Rattle.arch_disk.specs.Disk.{Device, LeavesOnly, NoFault}
use Rattle.arch_disk.proofs.Moments.{started}
use Rattle.refusals.specs.declared.refusal.Refusal.{Refusal}
use Rattle.refusals.specs.declared.refusal.Refusal.TheVariants.{NoArchive, Damaged, DiskFault, OutOfMemory, WriteFault}
use Rattle.archive_store.specs.Calls.{IsStoreOpenRefusal}
use Rattle.archive_store.specs.Entries.{FilledArchive}
use Rattle.archive_store.specs.Stands.{StandsFilled}
use Rattle.disk_journal.specs.Calls.{IsJournalOpenFailed}
use Rattle.command_plans.specs.Plan.{Interruption, OfMemory, OfInputs, OfDisk, OfOutput, CommandPlan, May, Way, Returned, Stopped, Interrupted, Allows, IsDetermined, IsDue, refusal_at, and_then}
use Rattle.command_plans.proofs.Plans.{required, gave}
use Rattle.line_buffer.specs.Output.{Appends}
use Rattle.command_runs.specs.Finishing.{IsFinished}
use Rattle.outer_traits.specs.States.{InputsState, OutputState}
use Rattle.command_plans.specs.Ledger.{UsedDisk}
use Rattle.command_plans.proofs.Ledgers.{risen_counted}
use Rattle.command_runs.specs.declared.report.Report.{Report}
use Rattle.command_runs.specs.ArchiveWork.{KnownOfDisk, RanWith, UsedByWork, known_of, opened_plan}
use Rattle.command_runs.specs.Command.{Progress, HasEffects, ArchiveSought, archive_sought, seeking_failed, Effects, Ran, RanOver, HasDiskOutcome, NoneFound, DamageFound, ArchiveFound, effects_of, failed_at, nothing_done, opening_plan, printing_plan, sources_at}
use Rattle.command_runs.specs.ReadOnly.{IsReadAsBefore}
use Rattle.command_runs.specs.Report.{unopened}

-- no text was printed
pub no_text : (known : Option (List ℕ)) → Appends known known []
no_text None = refl
no_text (Some before) = rw (append-nil before) refl

-- of the disk that is handed back no more is told than its outcome
abbrev pub IsUntold : Progress → Type 0
IsUntold s = (s.log ≡ None) × (s.pending ≡ None)

module _ {D : Type 0} (device : Device D) (e : Effects D) where
  -- a call gave something, and what follows ran
  pub ran_then : {X : Type 0} (p : CommandPlan Progress X) (f : X → CommandPlan Progress ⊥) (x : X) → Allows p (Returned x) → Ran device (f x) e → Ran device (and_then p f) e
  ran_then p f x allows ran = record { way = ran.way; allows = gave p f x ran.way allows ran.allows; did = ran.did }

  -- a fault did not come
  pub ran_later : (fault : Interruption) (s : Progress) (p : CommandPlan Progress ⊥) → Ran device p e → Ran device (May fault s p) e
  ran_later fault s p ran = record { way = ran.way; allows = inr ran.allows; did = ran.did }

  -- a text was printed
  pub ran_printed : (s : Progress) (text : List ℕ) (refusal : Option Refusal) → s.failed OfOutput ≡ false → s.failed OfDisk ≡ false → IsUntold s →
      IsFinished refusal e.output e.output' text →
      e.report ≡ record s.report { refusal = refusal } → HasDiskOutcome device e.disk e.disk' false s.disk → Ran device (printing_plan s text) e
  ran_printed s text None no_output no_disk untold written report disk = record {
    way = Stopped (record s { text = text; is_whole = true }) None;
    allows = inr refl;
    did = record { report = report; printed = written.all; output = record { counted = rw no_output written.no_fault }; disk = rw no_disk disk; log = rw untold.0 tt; pending = rw untold.1 tt };
  }
  ran_printed s text (Some WriteFault) no_output no_disk untold cut report disk = record {
    way = Interrupted (record s { text = text; is_whole = false }) OfOutput;
    allows = inl refl;
    did = record {
      report = report;
      printed = cut.some;
      output = record { counted = risen_counted e.output.faults e.output'.faults cut.later cut.failed };
      disk = rw no_disk disk;
      log = rw untold.0 tt;
      pending = rw untold.1 tt;
    };
  }
  ran_printed s text (Some other) no_output no_disk untold never report disk = absurd never

  -- the refusal at the end of the way is that of the report
  pub ended_is : (way : Way Progress ⊥) → HasEffects device e way → refusal_at way ≡ e.report.refusal
  ended_is (Returned x) did = absurd did
  ended_is (Stopped s refusal) did = sym (ap (λ (r : Report). r.refusal) did.report)
  ended_is (Interrupted s fault) did = sym (ap (λ (r : Report). r.refusal) did.report)

  -- and is the one that is due
  pub is_due : (plan : CommandPlan Progress ⊥) → IsDetermined plan → Ran device plan e → IsDue plan e.report.refusal
  is_due plan d ran = (ran.way, required plan ran.way d ran.allows, ended_is ran.way ran.did)

  -- over inputs too
  pub is_due_over : (plan : CommandPlan Progress ⊥) (old new : InputsState) → IsDetermined plan → RanOver device plan e old new → IsDue plan e.report.refusal
  is_due_over plan old new d went = is_due plan d went.ran

-- ---- an opening

module _ {D : Type 0} (device : Device D) where
  -- an archive was looked for, and no call failed,
  pub only_sought : (old new : D) → NoFault device old new → device.failed_writes new ≡ device.failed_writes old → UsedDisk device old new false 0 0
  only_sought old new told same = record { faults = told; writes = (0, omega arith, omega arith, same) }

  -- or one did
  seeking_failed_once : (old new : D) → IsJournalOpenFailed device old new → UsedDisk device old new true 0 1
  seeking_failed_once old new failed = elim failed.wrote_most [
    | inl same ↦ record { faults = failed.rose; writes = (0, omega arith, omega arith, same) }
    | inr one ↦ record { faults = failed.rose; writes = (1, omega arith, omega arith, one) }
  ]

module _ {D : Type 0} (device : Device D) (e : Effects D) (f : FilledArchive → CommandPlan Progress ⊥) (sources : ℕ) where
  -- an opening was refused
  pub ran_unopened : (refusal : Refusal) → IsStoreOpenRefusal device e.disk e.disk' refusal → device.reads e.disk' ≡ device.reads e.disk →
      LeavesOnly device e.disk e.disk' (device.images e.disk) → e.report ≡ unopened (Some refusal) → e.output' ≡ e.output →
      Ran device (and_then (opening_plan sources device e.disk) f) e
  ran_unopened NoArchive refused reads images report silent = record {
    way = Stopped (archive_sought sources) (Some NoArchive);
    allows = inr (inr (NoneFound, refused.none, refl));
    did = record {
      report = report;
      printed = rw silent (no_text e.output.written);
      output = record { counted = rw silent refl };
      disk = (only_sought device e.disk e.disk' refused.no_fault refused.no_failed_write, λ known. record { reads = reads; images = images });
      log = tt;
      pending = tt;
    };
  }
  ran_unopened (Damaged file at) refused reads images report silent = record {
    way = Stopped (archive_sought sources) (Some (Damaged file at));
    allows = inr (inr (DamageFound file at, refused.damaged, refl));
    did = record {
      report = report;
      printed = rw silent (no_text e.output.written);
      output = record { counted = rw silent refl };
      disk = (only_sought device e.disk e.disk' refused.no_fault refused.no_failed_write, λ known. record { reads = reads; images = images });
      log = tt;
      pending = tt;
    };
  }
  ran_unopened DiskFault refused reads images report silent = record {
    way = Interrupted (seeking_failed sources) OfDisk;
    allows = inr (inl refl);
    did = record {
      report = report;
      printed = rw silent (no_text e.output.written);
      output = record { counted = rw silent refl };
      disk = (seeking_failed_once device e.disk e.disk' refused, λ known. record { reads = reads; images = images });
      log = tt;
      pending = tt;
    };
  }
  ran_unopened OutOfMemory refused reads images report silent = record {
    way = Interrupted (archive_sought sources) OfMemory;
    allows = inl refl;
    did = record {
      report = report;
      printed = rw silent (no_text e.output.written);
      output = record { counted = rw silent refl };
      disk = (only_sought device e.disk e.disk' refused.1 refused.0, λ known. record { reads = reads; images = images });
      log = tt;
      pending = tt;
    };
  }
  ran_unopened other refused reads images report silent = absurd refused

  -- it came behind so many sources, and no call of the inputs failed
  pub unopened_after : (refusal : Refusal) (refused : IsStoreOpenRefusal device e.disk e.disk' refusal) (reads : device.reads e.disk' ≡ device.reads e.disk)
      (images : LeavesOnly device e.disk e.disk' (device.images e.disk)) (report : e.report ≡ unopened (Some refusal)) (silent : e.output' ≡ e.output) →
      (sources_at (ran_unopened refusal refused reads images report silent).way ≡ sources) × (failed_at (ran_unopened refusal refused reads images report silent).way OfInputs ≡ false)
  unfolding ran_unopened
  unopened_after NoArchive refused reads images report silent = (refl, refl)
  unopened_after (Damaged file at) refused reads images report silent = (refl, refl)
  unopened_after DiskFault refused reads images report silent = (refl, refl)
  unopened_after OutOfMemory refused reads images report silent = (refl, refl)
  unopened_after other refused reads images report silent = absurd refused

  -- an archive was opened, and what followed ran
  pub ran_opened : (filled : FilledArchive) → (IsTrue device.is_transparent → StandsFilled (device.reads e.disk) filled) → Ran device (f filled) e → Ran device (and_then (opening_plan sources device e.disk) f) e
  ran_opened filled stands ran = ran_then device e (opening_plan sources device e.disk) f filled (inr (inr (ArchiveFound filled, stands, refl))) ran

-- of a disk of which nothing was asked, what is said of one on which an archive was looked for
pub sought_unasked : {D : Type 0} (device : Device D) (old new : D) → new ≡ old → HasDiskOutcome device old new false ArchiveSought
sought_unasked {D = D} device old new same =
    let unused : UsedDisk device old old false 0 0 = record { faults = refl; writes = (0, omega arith, omega arith, refl) } in
    let as_before : IsReadAsBefore device old old = record { reads = refl; images = started device old (device.images old) (λ c now. now) } in
    subst (λ (d : D). HasDiskOutcome device old d false ArchiveSought) (sym same) (unused, λ known. as_before)

-- ---- a work with an archive that is opened

module _ {D : Type 0} (device : Device D) (disk : D) (output : OutputState) (sources : ℕ) {Input : Type 0} (old : Input) (Used : Input → Way Progress ⊥ → Type 0)
    (work : KnownOfDisk → FilledArchive → CommandPlan Progress ⊥) where
  abbrev behind : FilledArchive → CommandPlan Progress ⊥
  behind = work (known_of device disk)

  abbrev plan : CommandPlan Progress ⊥
  plan = opened_plan sources device disk work

  -- there was no memory for its line
  pub work_without_memory : RanWith device plan (effects_of disk disk output output (unopened (Some OutOfMemory))) (UsedByWork sources old old (Used old))
  work_without_memory = record {
    ran = record {
      way = Interrupted (nothing_done sources) OfMemory;
      allows = inl refl;
      did = record { report = refl; printed = no_text output.written; output = record { counted = refl }; disk = refl; log = tt; pending = tt };
    };
    used = inl (refl, refl, refl);
  }

  -- the opening was refused
  pub work_unopened : (refused : D × Refusal) → IsStoreOpenRefusal device disk refused.0 refused.1 → device.reads refused.0 ≡ device.reads disk → LeavesOnly device disk refused.0 (device.images disk) →
      RanWith device plan (effects_of disk refused.0 output output (unopened (Some refused.1))) (UsedByWork sources old old (Used old))
  work_unopened refused cause reads images =
      let went = effects_of disk refused.0 output output (unopened (Some refused.1)) in
      let ran = ran_unopened device went behind sources refused.1 cause reads images refl refl in
      let each = unopened_after device went behind sources refused.1 cause reads images refl refl in
      record { ran = record { way = ran.way; allows = inr ran.allows; did = ran.did }; used = inl (each.0, each.1, refl) }

  -- it was done
  pub work_done : (e : Effects D) → (new : Input) (filled : FilledArchive) → (IsTrue device.is_transparent → StandsFilled (device.reads disk) filled) →
      RanWith device (behind filled) e (Used new) → RanWith device plan e (UsedByWork sources old new (Used new))
  work_done e new filled stands done = record {
    ran = record {
      way = done.ran.way;
      allows = inr (gave (opening_plan sources device disk) behind filled done.ran.way (inr (inr (ArchiveFound filled, stands, refl))) done.ran.allows);
      did = done.ran.did;
    };
    used = inr done.used;
  }
