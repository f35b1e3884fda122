-- How the plan of a check goes.
use Rattle.std.proofs.Common.{◌≡◌, ◌∙◌, inl, inr, ℕ, false, List, length, Option, Some, None, refl, ap}
use Rattle.arch_disk.specs.Disk.{Device}
use Rattle.refusals.specs.declared.refusal.Refusal.{Refusal}
use Rattle.archive_store.specs.Entries.{FilledArchive}
use Rattle.command_plans.specs.Plan.{OfMemory, Stopped, Interrupted, EachEnd, IsDetermined}
use Rattle.command_runs.specs.Checking.{IsCheckRefusal, IsCheckReply, after_check, checking_plan}
use Rattle.command_runs.specs.Command.{HasDiskOutcome, Opened, Effects, Ran, archive_opened}
use Rattle.command_runs.specs.Report.{read_only}
use Rattle.command_runs.proofs.Commands.{no_text, ran_printed}
use Rattle.command_runs.proofs.OverInputs.{HasRead}

module _ (sources : ℕ) (filled : FilledArchive) (IsFound : Option Refusal → Type 0) (text : List ℕ) where
  -- one answer is due where one thing can be found
  pub check_determined : ((a b : Option Refusal) → IsFound a → IsFound b → a ≡ b) → IsDetermined (checking_plan sources filled IsFound text)
  check_determined once = (once, λ found was. after found)
    where
      after : (found : Option Refusal) → IsDetermined (after_check (archive_opened sources filled) text found)
      after None = tt
      after (Some refusal) = tt

  -- nothing is asked of the inputs
  pub check_reads : EachEnd (HasRead sources) (checking_plan sources filled IsFound text)
  check_reads = ((refl, refl), λ found was. after found)
    where
      after : (found : Option Refusal) → EachEnd (HasRead sources) (after_check (archive_opened sources filled) text found)
      after None = ((refl, refl), (refl, refl))
      after (Some refusal) = (refl, refl)

module _ {D : Type 0} (device : Device D) (e : Effects D) (sources : ℕ) (filled : FilledArchive) (IsFound : Option Refusal → Type 0) (text : List ℕ)
    (disk : HasDiskOutcome device e.disk e.disk' false (Opened filled)) where
  -- it was refused
  ran_refused : (refusal : Refusal) → IsCheckRefusal IsFound refusal → e.report ≡ read_only (Some refusal) (length filled.plain.history) → e.output' ≡ e.output
      → Ran device (checking_plan sources filled IsFound text) e
  ran_refused refusal (inl memory) report silent = record {
    way = Interrupted (archive_opened sources filled) OfMemory;
    allows = inl refl;
    did = record {
      report = report ∙ ap (λ (r : Refusal). read_only (Some r) (length filled.plain.history)) memory;
      printed = rw silent (no_text e.output.written);
      output = record { counted = rw silent refl };
      disk = disk;
      log = tt;
      pending = tt;
    };
  }
  ran_refused refusal (inr is) report silent = record {
    way = Stopped (archive_opened sources filled) (Some refusal);
    allows = inr (Some refusal, is, refl);
    did = record { report = report; printed = rw silent (no_text e.output.written); output = record { counted = rw silent refl }; disk = disk; log = tt; pending = tt };
  }

  -- or it found nothing
  pub ran_checked : (refusal : Option Refusal) → IsCheckReply IsFound text refusal e.output e.output' → e.report ≡ read_only refusal (length filled.plain.history)
      → Ran device (checking_plan sources filled IsFound text) e
  ran_checked None (inr refused) report = absurd refused.0
  ran_checked (Some refusal) (inr refused) report = ran_refused refusal refused.0 report refused.1
  ran_checked refusal (inl passed) report =
      let printed = ran_printed device e (archive_opened sources filled) text refusal refl refl (refl, refl) passed.printed report disk in
      record { way = printed.way; allows = inr (None, passed.found, printed.allows); did = printed.did }
