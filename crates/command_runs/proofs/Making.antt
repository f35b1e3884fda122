-- What is done with an archive that was made in the same call.
use Rattle.std.proofs.Common.{◌≡◌, ◌≤◌, ℕ, Bool, false, Option, Some, None, refl, subst}
use Rattle.std.specs.Prelude.{IsTrue}
use Rattle.arch_disk.specs.Disk.{Device}
use Rattle.refusals.specs.declared.refusal.Refusal.{Refusal}
use Rattle.history_items.specs.Fills.{above}
use Rattle.archive_store.specs.Head.{Head}
use Rattle.command_plans.specs.Ledger.{RoseIf, UsedWithoutFailedWrite}
use Rattle.command_plans.specs.Plan.{CommandPlan, EachEnd, FailedCalls, OfDisk, Way, Returned, Stopped, Interrupted, Return, Stop, May, Question, Choose, interruption_refusal, map_done, way_map_done, with_failed_call}
use Rattle.command_plans.proofs.Plans.{allows_map_done, end_of}
use Rattle.outer_traits.specs.States.{OutputState}
use Rattle.command_runs.specs.Causes.{IsCountedSince}
use Rattle.command_runs.specs.Command.{AllFilled, ArchiveSought, DiskOutcome, EndedAt, Extended, ExtensionFailed, FillingFailed, HasDiskOutcome, HasEffects, Made, MadeThen, MakingFailed, NotAsked, Opened, Progress, Ran, SeekingFailed, behind_making, effects_of}
use Rattle.command_runs.specs.Creation.{IsMade}
use Rattle.command_runs.specs.declared.report.Report.{Report}
use Rattle.command_runs.proofs.OverInputs.{HasRead}

-- the count of a disk that was asked rose where a call of it failed, and nowhere else
pub counted_by : {D : Type 0} (device : Device D) (old new : D) (failed : Bool) (outcome : DiskOutcome) → (outcome ≡ NotAsked → ⊥) → HasDiskOutcome device old new failed outcome
    → RoseIf failed (device.fault_count old) (device.fault_count new)
counted_by device old new failed NotAsked asked h = absurd (asked refl)
counted_by device old new failed ArchiveSought asked h = h.0.faults
counted_by device old new failed SeekingFailed asked h = h.0.faults
counted_by device old new failed (Opened filled) asked h = h.0.faults
counted_by device old new failed (MakingFailed head) asked h = h.0.faults
counted_by device old new failed (Made head) asked h = h.0.faults
counted_by device old new failed (Extended before reached) asked h = h.0.faults
counted_by device old new failed (ExtensionFailed before reached rows) asked h = h.0.faults
counted_by device old new failed (AllFilled before reached) asked h = h.0.faults
counted_by device old new failed (FillingFailed before reached) asked h = h.0.faults
counted_by device old new failed (MadeThen head outcome) asked h = h.faults

-- a disk was asked at this end of a way
abbrev pub AsksDisk : Way Progress ⊥ → Type 0
AsksDisk (Returned x) = Unit {0}
AsksDisk (Stopped s refusal) = s.disk ≡ NotAsked → ⊥
AsksDisk (Interrupted s fault) = s.disk ≡ NotAsked → ⊥

module _ {D : Type 0} (device : Device D) (disk between new : D) (head : Head) (used : UsedWithoutFailedWrite device disk between false) (made : IsTrue device.is_transparent → IsMade device disk between head)
    (output output' : OutputState) (report : Report) where
  -- the making counted no fault, so what is said of counts since then is said of those since the beginning
  since : (pending : Option ℕ) → IsCountedSince device between new pending → IsCountedSince device disk new pending
  since None counted = tt
  since (Some faults) counted = subst (λ (n : ℕ). (above n ≤ faults) × (faults ≤ device.fault_count new)) used.faults counted

  ended_behind : (s : Progress) (refusal : Option Refusal) (failed : FailedCalls) → (s.disk ≡ NotAsked → ⊥) → EndedAt device (effects_of between new output output' report) s refusal failed
      → EndedAt device (effects_of disk new output output' report) (behind_making head s) refusal failed
  ended_behind s refusal failed asked h = record {
    report = h.report;
    printed = h.printed;
    output = h.output;
    disk = record {
      between = between;
      used = used;
      made = made;
      after = h.disk;
      faults = subst (λ (n : ℕ). RoseIf (failed OfDisk) n (device.fault_count new)) used.faults (counted_by device between new (failed OfDisk) s.disk asked h.disk);
    };
    log = h.log;
    pending = since s.pending h.pending;
  }

  effects_behind : (way : Way Progress ⊥) → AsksDisk way → HasEffects device (effects_of between new output output' report) way
      → HasEffects device (effects_of disk new output output' report) (way_map_done (behind_making head) way)
  effects_behind (Returned x) asked did = did
  effects_behind (Stopped s refusal) asked did = ended_behind s refusal s.failed asked did
  effects_behind (Interrupted s fault) asked did = ended_behind s (Some (interruption_refusal fault)) (with_failed_call fault s.failed) asked did

  -- behind a making a plan went over the disk that it left
  pub ran_behind_making : (plan : CommandPlan Progress ⊥) → EachEnd AsksDisk plan → Ran device plan (effects_of between new output output' report)
      → Ran device (map_done (behind_making head) plan) (effects_of disk new output output' report)
  ran_behind_making plan asks ran = record {
    way = way_map_done (behind_making head) ran.way;
    allows = allows_map_done (behind_making head) plan ran.way ran.allows;
    did = effects_behind ran.way (end_of AsksDisk plan ran.way asks ran.allows) ran.did;
  }

-- so many sources were given at each end behind a making, where they were at each end of what is done
pub reads_behind : (head : Head) (sources : ℕ) (plan : CommandPlan Progress ⊥) → EachEnd (HasRead sources) plan → EachEnd (HasRead sources) (map_done (behind_making head) plan)
reads_behind head sources (Return x) each = tt
reads_behind head sources (Stop s refusal) each = each
reads_behind head sources (May fault s plan) each = (each.0, reads_behind head sources plan each.1)
reads_behind head sources (Question is next) each = λ a h. reads_behind head sources (next a) (each a h)
reads_behind head sources (Choose is next) each = λ a h. reads_behind head sources (next a) (each a h)
