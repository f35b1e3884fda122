-- A call of `run` whose disk and inputs tell what they hold, and what the clauses of all commands are made of.
use Rattle.std.specs.Prelude.{◌≡◌, ◌⊎◌, ◌≤◌, ℤ, List, [], length, ℕ, IsSome, IsSomeAnd, IsTrue, Option, Some, None, true, false}
use Rattle.arch_disk.specs.Image.{Image}
use Rattle.arch_disk.specs.Disk.{Device, LeavesOnly, raised}
use Rattle.refusals.specs.declared.refusal.Refusal.{Refusal}
use Rattle.refusals.specs.declared.refusal.Refusal.TheVariants.{DiskFault, OutOfMemory, ReadFault, WriteFault, Damaged, NoArchive}
use Rattle.outer_traits.specs.Outside.{Files, HasRisen, WritesSome}
use Rattle.outer_traits.specs.States.{OutputState}
use Rattle.line_buffer.specs.Output.{Appends}
use Rattle.archive_store.specs.Entries.{FilledArchive}
use Rattle.archive_store.specs.Stands.{IsSoundImage, StandsFilled, StandsFor, IsArchiveDamagedAt}
use Rattle.command_plans.specs.Ledger.{Counted}
use Rattle.command_plans.specs.Plan.{OfInputs}
use Rattle.command_words.specs.Job.{Job, job_of}
use Rattle.command_runs.specs.declared.report.Report.{Report}
use Rattle.command_runs.specs.Command.{Effects, Ran, effects_of, failed_at}
use Rattle.command_runs.specs.Report.{read_only, unopened}
use Rattle.archive_cli.specs.Run.{run_plan}
use Rattle.disk_journal.specs.Format.{HoldsNone}

-- A call of `run`: the disk that was handed in and the one that is handed back, the output before and after, how often
-- the inputs had failed before and by the end, and the report.
pub record Call (D : Type 0) : Type 0 where
  pub disk : D
  pub disk' : D
  pub output : OutputState
  pub output' : OutputState
  pub read_faults : ℕ
  pub read_faults' : ℕ
  pub report : Report

-- what it did, in the words of plans
abbrev pub effects : {D : Type 0} → Call D → Effects D
effects e = effects_of e.disk e.disk' e.output e.output' e.report

-- What `run` promises of a call for a job by its clause `ran`, over a disk that tells what it holds, inputs of these
-- files, and a clock whose moment may be known: it took a way through its plan, and the inputs failed where that says
-- so.
pub record IsRun {D : Type 0} (device : Device D) (e : Call D) (files : Files) (clock : Option ℤ)
    (job : Job) : Type 0 where
  pub transparent : IsTrue device.is_transparent
  pub words : List (List ℕ)
  pub are : job_of words ≡ Some job
  pub ran : Ran device (run_plan device e.disk (Some files) clock words) (effects e)
  pub read : Counted (failed_at ran.way OfInputs) e.read_faults e.read_faults'

-- ---- how it ended

-- the exit status is 0
abbrev pub Succeeded : {D : Type 0} → Call D → Type 0
Succeeded e = e.report.refusal ≡ None

-- a refusal says that memory was wanting, or that a call of the disk, the output or the inputs failed, whose count of
-- faults rose
abbrev pub IsInterruption : {D : Type 0} → Device D → Call D → Refusal → Type 0
IsInterruption device e OutOfMemory = Unit {0}
IsInterruption device e DiskFault = raised (device.fault_count e.disk) ≤ device.fault_count e.disk'
IsInterruption device e WriteFault = HasRisen e.output.faults e.output'.faults
IsInterruption device e ReadFault = HasRisen e.read_faults e.read_faults'
IsInterruption device e other = ⊥

-- memory was wanting, or a call of the disk, the output or the inputs failed
abbrev pub WasInterrupted : {D : Type 0} → Device D → Call D → Type 0
WasInterrupted device e = IsSomeAnd e.report.refusal (IsInterruption device e)

-- it is refused so, but for want of memory and calls that fail
abbrev pub IsRefusedBy : {D : Type 0} → Device D → Call D → Refusal → Type 0
IsRefusedBy device e refusal = (e.report.refusal ≡ Some refusal) ⊎ WasInterrupted device e

-- ---- what was printed

-- a text was printed
abbrev pub Prints : {D : Type 0} → Call D → List ℕ → Type 0
Prints e text = Appends e.output.written e.output'.written text

-- a prefix of a text was printed
abbrev pub PrintsSome : {D : Type 0} → Call D → List ℕ → Type 0
PrintsSome e text = WritesSome e.output.written e.output'.written text

-- ---- the archive of the disk that is handed in

-- the disk handed in stands for an archive with this
abbrev pub HeldArchive : {D : Type 0} → Device D → Call D → (FilledArchive → Type 0) → Type 0
HeldArchive device e P = (filled : FilledArchive) × StandsFilled (device.reads e.disk) filled × P filled

-- an image stands for the archive that the disk handed in stands for, with its fills
abbrev pub IsSameArchive : {D : Type 0} → Device D → Call D → Image → Type 0
IsSameArchive device e image = HeldArchive device e (StandsFilled image)

-- an image stands for the history of the archive that the disk handed in stands for
abbrev pub HasSameHistory : {D : Type 0} → Device D → Call D → Image → Type 0
HasSameHistory device e image = HeldArchive device e (λ filled. StandsFor image filled.plain)

-- a refusal says why no archive of the disk handed in is opened: none is there, or it is damaged at a gate of file 0
abbrev pub IsNoArchive : {D : Type 0} → Device D → Call D → Refusal → Type 0
IsNoArchive device e NoArchive = HoldsNone (device.reads e.disk 0)
IsNoArchive device e (Damaged file at) = (file ≡ 0) × IsArchiveDamagedAt (device.reads e.disk) at
IsNoArchive device e other = ⊥

-- every image of the disk handed in is sound, and stands for the history that it stands for as it reads
abbrev pub IsSoundAtFirst : {D : Type 0} → Device D → Call D → Type 0
IsSoundAtFirst device e =
    (image : Image) → device.images e.disk image → IsSoundImage image × HasSameHistory device e image

-- ---- what is reported

-- no archive was opened or made: a refusal says why, and nothing was printed
pub record IsUnopened {D : Type 0} (e : Call D) : Type 0 where
  pub refused : IsSome e.report.refusal
  pub report : e.report ≡ unopened e.report.refusal
  pub silent : Prints e []

-- an archive was opened, and the length of its history is reported, before and after
abbrev pub HasKeptRows : {D : Type 0} → Device D → Call D → Type 0
HasKeptRows device e =
    HeldArchive device e (λ filled. e.report ≡ read_only e.report.refusal (length filled.plain.history))

-- ---- what became of the disk

-- it reads as before, and a crash at any moment of the call leaves what it could have left before
pub record LeavesDisk {D : Type 0} (device : Device D) (e : Call D) : Type 0 where
  pub reads : device.reads e.disk' ≡ device.reads e.disk
  pub images : LeavesOnly device e.disk e.disk' (device.images e.disk)

-- Until the syncs of the opening are done a crash leaves what it could have left before, and from then on an image that
-- has P, and a sound one where the disk handed in read as a sound image.
pub record LeavesSinceOpening {D : Type 0} (device : Device D) (e : Call D) (P : Image → Type 0) : Type 0 where
  pub opened : D
  pub before : LeavesOnly device e.disk opened (device.images e.disk)
  pub since : LeavesOnly device opened e.disk' P
  pub sound : IsSoundImage (device.reads e.disk) → LeavesOnly device opened e.disk' IsSoundImage

-- All is left as it was: the disk as it reads, and what it stands for at each moment of the call.
pub record LeavesAll {D : Type 0} (device : Device D) (e : Call D) : Type 0 where
  pub reads : device.reads e.disk' ≡ device.reads e.disk
  pub unopened : e.report.opened ≡ false → LeavesDisk device e
  pub opened : e.report.opened ≡ true → LeavesSinceOpening device e (IsSameArchive device e)
  pub report : IsUnopened e ⊎ HasKeptRows device e
