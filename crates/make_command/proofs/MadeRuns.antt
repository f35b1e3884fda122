-- How the making of an archive of made packets went, and what was done behind it.
use Rattle.std.proofs.Common.{◌≡◌, inl, inr, ℕ, ℤ, false, Option, Some, refl}
use Rattle.std.specs.Prelude.{IsTrue}
use Rattle.arch_disk.specs.Disk.{Device, IsUntouched as JournalLeft}
use Rattle.refusals.specs.declared.refusal.Refusal.{Refusal}
use Rattle.refusals.specs.declared.refusal.Refusal.TheVariants.{OutOfMemory}
use Rattle.disk_journal.specs.Calls.{BeginsOpen, CountsNeverFall}
use Rattle.disk_journal.specs.Format.{HoldsNone}
use Rattle.outer_traits.specs.States.{OutputState}
use Rattle.archive_store.specs.Calls.{CrashLeavesHead, IsStoreCreateRefusal}
use Rattle.archive_commands.proofs.CreatePlan.{ran_unmade}
use Rattle.command_plans.specs.Ledger.{UsedWithoutFailedWrite}
use Rattle.command_plans.specs.Plan.{OfMemory, Interrupted}
use Rattle.command_runs.specs.declared.report.Report.{Report}
use Rattle.command_runs.specs.Command.{Ran, effects_of, nothing_done}
use Rattle.command_runs.specs.Creation.{IsMade}
use Rattle.command_runs.specs.Report.{unopened}
use Rattle.command_runs.proofs.Commands.{no_text}
use Rattle.command_runs.proofs.Making.{ran_behind_making}
use Rattle.make_command.specs.Made.{made_head}
use Rattle.make_command.specs.Make.{behind_plan, made_load_plan, make_plan}
use Rattle.make_command.proofs.MakePlan.{load_asks}

module _ {D : Type 0} (device : Device D) (disk disk' : D) (output output' : OutputState) (report : Report) (next : Option ℤ) (seed : ℕ) where
  -- memory was wanting for what is taken before
  pub ran_unprepared : report ≡ unopened (Some OutOfMemory) → disk' ≡ disk → output' ≡ output → Ran device (make_plan device disk next seed) (effects_of disk disk' output output' report)
  unfolding make_plan
  ran_unprepared is same silent = record {
    way = Interrupted (nothing_done 0) OfMemory;
    allows = inl refl;
    did = record { report = is; printed = rw silent (no_text output.written); output = record { counted = rw silent refl }; disk = same; log = tt; pending = tt };
  }

  -- no archive was made
  pub ran_not_made : (refusal : Refusal) → IsStoreCreateRefusal device disk disk' refusal → (IsTrue device.is_transparent → BeginsOpen (device.reads disk 0) → JournalLeft device disk disk')
      → CrashLeavesHead device disk disk' made_head → CountsNeverFall device disk disk' → report ≡ unopened (Some refusal) → output' ≡ output
      → Ran device (make_plan device disk next seed) (effects_of disk disk' output output' report)
  unfolding make_plan
  ran_not_made = ran_unmade 0 device (effects_of disk disk' output output' report) made_head (behind_plan device next seed)

  -- one was made, and the load went over the disk that the making left
  pub ran_made_and_loaded : (between : D) → UsedWithoutFailedWrite device disk between false → (IsTrue device.is_transparent → IsMade device disk between made_head)
      → (IsTrue device.is_transparent → HoldsNone (device.reads disk 0)) → Ran device (made_load_plan device next seed) (effects_of between disk' output output' report)
      → Ran device (make_plan device disk next seed) (effects_of disk disk' output output' report)
  unfolding make_plan
  ran_made_and_loaded between used made none loaded =
      let ran = ran_behind_making device disk between disk' made_head used made output output' report (made_load_plan device next seed) (load_asks device next seed) loaded in
      record { way = ran.way; allows = inr (inr (false, none, ran.allows)); did = ran.did }
