-- What a command has done where it ends, and the parts that plans of commands are made of.
use Rattle.std.specs.Prelude.{◌≡◌, ℕ, List, [], length, Bool, true, false, IsTrue, Option, Some, None}
use Rattle.arch_disk.specs.Image.{Image}
use Rattle.arch_disk.specs.Disk.{Device}
use Rattle.refusals.specs.declared.refusal.Refusal.{Refusal}
use Rattle.refusals.specs.declared.refusal.Refusal.TheVariants.{NoArchive, Damaged}
use Rattle.arch_types.specs.declared.row.Row.{Row}
use Rattle.disk_journal.specs.Format.{HoldsNone}
use Rattle.outer_traits.specs.Outside.{WritesSome}
use Rattle.outer_traits.specs.States.{InputsState, OutputState}
use Rattle.command_plans.specs.Ledger.{RoseIf, UsedWithoutFailedWrite, UsedDisk, UsedInputs, UsedOutput, WritesFailedAtMost}
use Rattle.line_buffer.specs.Output.{Appends}
use Rattle.command_plans.specs.Plan.{FailedCalls, OfMemory, OfInputs, OfOutput, OfDisk, interruption_refusal, no_failed_calls, with_failed_call, CommandPlan, Return, Stop, May, Question, Way, Returned, Stopped, Interrupted, Allows}
use Rattle.archive_store.specs.Head.{Head}
use Rattle.history_items.specs.declared.items.Item.{Item}
use Rattle.archive_store.specs.Entries.{FilledArchive}
use Rattle.archive_store.specs.Stands.{StandsFilled, IsArchiveDamagedAt}
use Rattle.command_runs.specs.declared.report.Report.{Report}
use Rattle.command_runs.specs.Causes.{IsCountedSince, IsLogNear}
use Rattle.command_runs.specs.Creation.{IsMade, IsMakingFailed}
use Rattle.command_runs.specs.ReadOnly.{IsReadAsBefore, IsReadOnly}
use Rattle.command_runs.specs.Report.{unopened, read_only}
use Rattle.command_runs.specs.Extension.{IsAllFilled, IsExtended, IsExtensionFailed, IsFillingFailed}

-- ---- what was done

-- what became of a disk
pub data DiskOutcome : Type 0 where
  -- nothing was asked of it
  NotAsked : DiskOutcome
  -- an archive was looked for, and none was opened or made
  ArchiveSought : DiskOutcome
  -- an archive was looked for, and a call of the disk failed
  SeekingFailed : DiskOutcome
  -- this archive was opened, and left as it was with its fills
  Opened : FilledArchive → DiskOutcome
  -- the making of an archive of this head failed
  MakingFailed : Head → DiskOutcome
  -- an archive of this head was made
  Made : Head → DiskOutcome
  -- this archive was opened, and its history extended to this; late intervals may have got fills
  Extended : FilledArchive → List Item → DiskOutcome
  -- it was extended to this, and the disk failed as these rows were to stand behind it
  ExtensionFailed : FilledArchive → List Item → List Row → DiskOutcome
  -- it was extended to this, and each late interval was filled
  AllFilled : FilledArchive → List Item → DiskOutcome
  -- it was extended to this, and the disk failed at the fill of a late interval
  FillingFailed : FilledArchive → List Item → DiskOutcome
  -- an archive of this head was made, and this became of the disk that its making left
  MadeThen : Head → DiskOutcome → DiskOutcome

-- An archive of this head was made on a disk, of which no call failed by then; this became of the disk that the making
-- left. The count of faults rose where a call failed behind it, and nowhere else.
pub record IsMadeBefore {D : Type 0} (device : Device D) (old new : D) (failed : Bool) (head : Head) (After : D → Type 0)
    : Type 0 where
  pub between : D
  pub used : UsedWithoutFailedWrite device old between false
  pub made : IsTrue device.is_transparent → IsMade device old between head
  pub after : After between
  pub faults : RoseIf failed (device.fault_count old) (device.fault_count new)

-- a disk has this outcome: what it holds by then is known where it is transparent, and its counts on any disk
abbrev pub HasDiskOutcome : {D : Type 0} → Device D → D → D → Bool → DiskOutcome → Type 0
HasDiskOutcome device old new failed NotAsked = new ≡ old
HasDiskOutcome device old new failed ArchiveSought =
    UsedWithoutFailedWrite device old new failed × (IsTrue device.is_transparent → IsReadAsBefore device old new)
HasDiskOutcome device old new failed SeekingFailed =
    WritesFailedAtMost 1 device old new failed × (IsTrue device.is_transparent → IsReadAsBefore device old new)
HasDiskOutcome device old new failed (Opened filled) =
    UsedWithoutFailedWrite device old new failed × (IsTrue device.is_transparent → IsReadOnly device old new filled)
HasDiskOutcome device old new failed (MakingFailed head) =
    WritesFailedAtMost 2 device old new failed × (IsTrue device.is_transparent → IsMakingFailed device old new head)
HasDiskOutcome device old new failed (Made head) =
    UsedWithoutFailedWrite device old new failed × (IsTrue device.is_transparent → IsMade device old new head)
HasDiskOutcome device old new failed (Extended before reached) =
    UsedWithoutFailedWrite device old new failed
    × (IsTrue device.is_transparent → IsExtended device old new before reached)
HasDiskOutcome device old new failed (ExtensionFailed before reached rows) =
    UsedDisk device old new failed 1 2
    × (IsTrue device.is_transparent → IsExtensionFailed device old new before reached rows)
HasDiskOutcome device old new failed (AllFilled before reached) =
    UsedWithoutFailedWrite device old new failed
    × (IsTrue device.is_transparent → IsAllFilled device old new before reached)
HasDiskOutcome device old new failed (FillingFailed before reached) =
    UsedDisk device old new failed 1 2 × (IsTrue device.is_transparent → IsFillingFailed device old new before reached)
HasDiskOutcome device old new failed (MadeThen head outcome) =
    IsMadeBefore device old new failed head (λ between. HasDiskOutcome device between new failed outcome)

-- What a command has done so far: the text that it printed, whole, or that it was printing; the report but for its
-- refusal; the outcome of the disk; how many sources the inputs gave; which calls of the outside failed before, though
-- it went on; and, where it is refused for it, with how many records more the log reaches its limit, or at which count
-- of faults a failed write was pending.
pub record Progress : Type 0 where
  pub text : List ℕ
  pub is_whole : Bool
  pub report : Report
  pub disk : DiskOutcome
  pub sources : ℕ
  pub failed : FailedCalls
  pub log : Option ℕ
  pub pending : Option ℕ

-- nothing was done but that so many sources were given
abbrev pub nothing_done : ℕ → Progress
nothing_done sources = record {
  text = [];
  is_whole = true;
  report = unopened None;
  disk = NotAsked;
  sources = sources;
  failed = no_failed_calls;
  log = None;
  pending = None;
}

-- an archive was looked for after so many sources were given, and none was opened
abbrev pub archive_sought : ℕ → Progress
archive_sought sources = record {
  text = [];
  is_whole = true;
  report = unopened None;
  disk = ArchiveSought;
  sources = sources;
  failed = no_failed_calls;
  log = None;
  pending = None;
}

-- an archive was looked for after so many sources were given, and a call of the disk failed
abbrev pub seeking_failed : ℕ → Progress
seeking_failed sources = record {
  text = [];
  is_whole = true;
  report = unopened None;
  disk = SeekingFailed;
  sources = sources;
  failed = no_failed_calls;
  log = None;
  pending = None;
}

-- this archive was opened after so many sources were given
abbrev pub archive_opened : ℕ → FilledArchive → Progress
archive_opened sources filled = record {
  text = [];
  is_whole = true;
  report = read_only None (length filled.plain.history);
  disk = Opened filled;
  sources = sources;
  failed = no_failed_calls;
  log = None;
  pending = None;
}

-- this was done behind the making of an archive of this head
abbrev pub behind_making : Head → Progress → Progress
behind_making head s = record s { disk = MadeThen head s.disk }

-- What a call of the program did: the disk that was handed in and the one that is handed back, the output before and
-- after, and the report.
pub record Effects (D : Type 0) : Type 0 where
  pub disk : D
  pub disk' : D
  pub output : OutputState
  pub output' : OutputState
  pub report : Report

-- what a call did, by its disk, its output and its report
abbrev pub effects_of : {D : Type 0} → D → D → OutputState → OutputState → Report → Effects D
effects_of disk disk' output output' report =
    record { disk = disk; disk' = disk'; output = output; output' = output'; report = report }

-- a text was written whole, or some of it
abbrev pub AppendsAs : Bool → Option (List ℕ) → Option (List ℕ) → List ℕ → Type 0
AppendsAs true old new text = Appends old new text
AppendsAs false old new text = WritesSome old new text

-- a call ended by this refusal with this done so far, and these calls of the outside had failed
pub record EndedAt {D : Type 0} (device : Device D) (e : Effects D) (s : Progress) (refusal : Option Refusal)
    (failed : FailedCalls) : Type 0 where
  pub report : e.report ≡ record s.report { refusal = refusal }
  pub printed : AppendsAs s.is_whole e.output.written e.output'.written s.text
  pub output : UsedOutput e.output e.output' (failed OfOutput)
  pub disk : HasDiskOutcome device e.disk e.disk' (failed OfDisk) s.disk
  pub log : IsLogNear device e.disk' s.log
  pub pending : IsCountedSince device e.disk e.disk' s.pending

-- a call did what is said where its way ended
abbrev pub HasEffects : {D : Type 0} → Device D → Effects D → Way Progress ⊥ → Type 0
HasEffects device e (Returned x) = ⊥
HasEffects device e (Stopped s refusal) = EndedAt device e s refusal s.failed
HasEffects device e (Interrupted s fault) =
    EndedAt device e s (Some (interruption_refusal fault)) (with_failed_call fault s.failed)

-- a call took a way through its plan, and did what is said where that ended
pub record Ran {D : Type 0} (device : Device D) (plan : CommandPlan Progress ⊥) (e : Effects D) : Type 0 where
  pub way : Way Progress ⊥
  pub allows : Allows plan way
  pub did : HasEffects device e way

-- which calls of the outside had failed at the end of a way
abbrev pub failed_at : Way Progress ⊥ → FailedCalls
failed_at (Returned x) = no_failed_calls
failed_at (Stopped s refusal) = s.failed
failed_at (Interrupted s fault) = with_failed_call fault s.failed

-- how many sources were given by the end of a way
abbrev pub sources_at : Way Progress ⊥ → ℕ
sources_at (Returned x) = 0
sources_at (Stopped s refusal) = s.sources
sources_at (Interrupted s fault) = s.sources

-- a call over inputs took a way through its plan, did what is said where it ended, and used the inputs as far as that
-- place
pub record RanOver {D : Type 0} (device : Device D) (plan : CommandPlan Progress ⊥) (e : Effects D)
    (old new : InputsState) : Type 0 where
  pub ran : Ran device plan e
  pub inputs : UsedInputs old new (sources_at ran.way) (failed_at ran.way OfInputs)

-- ---- the parts of plans

-- prints a text, for which there's memory, and ends by this refusal or by none
abbrev pub printing_then_plan : Progress → List ℕ → Option Refusal → CommandPlan Progress ⊥
printing_then_plan s text refusal =
    May OfOutput (record s { text = text; is_whole = false })
    (Stop (record s { text = text; is_whole = true }) refusal)

-- prints a text, for which there's memory
abbrev pub printing_plan : Progress → List ℕ → CommandPlan Progress ⊥
printing_plan s text = printing_then_plan s text None

-- prints a text that is made while it is printed, so that memory may be wanting behind some of it, and ends by this
-- refusal or by none
abbrev pub stepwise_printing_then_plan : Progress → List ℕ → Option Refusal → CommandPlan Progress ⊥
stepwise_printing_then_plan s text refusal =
    May OfMemory (record s { text = text; is_whole = false }) (printing_then_plan s text refusal)

-- prints a text that is made while it is printed, so that memory may be wanting behind some of it
abbrev pub stepwise_printing_plan : Progress → List ℕ → CommandPlan Progress ⊥
stepwise_printing_plan s text = stepwise_printing_then_plan s text None

-- what an opening finds on a disk
pub data OpeningResult : Type 0 where
  NoneFound : OpeningResult
  DamageFound : ℕ → ℕ → OpeningResult
  -- the archive, with its fills
  ArchiveFound : FilledArchive → OpeningResult

-- the image has what was found
abbrev pub IsOpeningResult : Image → OpeningResult → Type 0
IsOpeningResult image NoneFound = HoldsNone (image 0)
IsOpeningResult image (DamageFound file at) = (file ≡ 0) × IsArchiveDamagedAt image at
IsOpeningResult image (ArchiveFound filled) = StandsFilled image filled

-- what an opening leads to, by what it found
abbrev pub after_opening : ℕ → OpeningResult → CommandPlan Progress FilledArchive
after_opening sources NoneFound = Stop (archive_sought sources) (Some NoArchive)
after_opening sources (DamageFound file at) = Stop (archive_sought sources) (Some (Damaged file at))
after_opening sources (ArchiveFound filled) = Return filled

-- opens the archive of a disk after so many sources were given: DiskFault; NoArchive or Damaged, where the disk says so
abbrev pub opening_plan : {D : Type 0} → ℕ → Device D → D → CommandPlan Progress FilledArchive
opening_plan sources device disk =
    May OfMemory (archive_sought sources)
    (May OfDisk (seeking_failed sources)
    (Question (λ held. IsTrue device.is_transparent → IsOpeningResult (device.reads disk) held)
    (after_opening sources)))
