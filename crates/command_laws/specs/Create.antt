-- The clause of `create`.
use Rattle.std.specs.Prelude.{◌≡◌, ◌⊎◌, ℕ, ℤ, List, [], ◌∷◌, true, false, Option, Some, Result, Ok, Err}
use Rattle.arch_disk.specs.Image.{Image}
use Rattle.arch_disk.specs.Disk.{Device, LeavesOnly}
use Rattle.disk_journal.specs.Calls.{BeginsOpen}
use Rattle.disk_journal.specs.Format.{HoldsNone}
use Rattle.intervals.specs.Interval.{format_1_exponent}
use Rattle.mdb_items.specs.declared.sheet.RawMdb.{RawMdb}
use Rattle.refusals.specs.declared.refusal.Refusal.{Refusal}
use Rattle.refusals.specs.declared.refusal.Refusal.TheVariants.{Exists}
use Rattle.refusals.specs.declared.refusal.Which.{Which}
use Rattle.refusals.specs.declared.refusal.Which.TheVariants.{ScriptOctets, SheetOctets}
use Rattle.outer_traits.specs.Outside.{Files}
use Rattle.archive_store.specs.Head.{Head}
use Rattle.archive_store.specs.Entries.{archive}
use Rattle.archive_store.specs.Stands.{IsSoundImage, StandsFor}
use Rattle.command_words.specs.Job.{Create, CreateWords}
use Rattle.command_runs.specs.Creation.{create_line}
use Rattle.command_runs.specs.Durable.{FailedAtMostOnce}
use Rattle.command_runs.specs.Report.{read_only}
use Rattle.archive_commands.specs.Create.{IsHeadAnswer}
use Rattle.command_laws.specs.Calls.{Call, IsRefusedBy, IsRun, IsUnopened, LeavesDisk, Prints, PrintsSome, Succeeded, WasInterrupted}
use Rattle.command_laws.specs.NamedFiles.{HasScript, HasSheets, IsFirstUnread, IsReadingRefusal, named_file}

-- the files of a call, in the order in which they are read
abbrev pub create_files : CreateWords → List (Which × List ℕ)
create_files words =
    (SheetOctets, words.parameters) ∷ (SheetOctets, words.calibrations) ∷ (SheetOctets, words.containers)
    ∷ named_file ScriptOctets words.script

-- the three sheets and the script give this head (the table `tm`, the tables that the script creates, and the
-- database), or are refused
pub record GivesHead (files : Files) (words : CreateWords) (answer : Result Head Refusal) : Type 0 where
  pub raw : RawMdb
  pub text : List ℕ
  pub sheets : HasSheets files words.parameters words.calibrations words.containers raw
  pub script : HasScript files words.script text
  pub gives : IsHeadAnswer raw text answer

-- an image stands for this head without rows
abbrev pub IsHeadAlone : Head → Image → Type 0
IsHeadAlone head image = StandsFor image (archive head format_1_exponent [])

-- There was no archive, and the disk as it is handed back stands for the head without rows. So does each image that a
-- crash now leaves, and it is sound.
pub record IsMadeOf {D : Type 0} (device : Device D) (e : Call D) (head : Head) : Type 0 where
  pub none : HoldsNone (device.reads e.disk 0)
  pub reads : IsHeadAlone head (device.reads e.disk')
  pub images : (image : Image) → device.images e.disk' image → IsHeadAlone head image × IsSoundImage image

-- an image stands for nothing, or for the head that the sheets and the script give
abbrev pub IsNoneOrHead : Files → CreateWords → Image → Type 0
IsNoneOrHead files words image =
    HoldsNone (image 0) ⊎ ((head : Head) × GivesHead files words (Ok head) × IsHeadAlone head image)

-- At status 0 the disk that is handed back stands for the head without rows, and so it does where the archive was made
-- and its line couldn't be printed. One that held an archive stays as it was, and the refusal says so. Where every
-- image of the disk handed in stands for nothing, every image of a moment during the call stands for nothing or for
-- that head. Where none was made, and the disk failed at most once, a crash leaves none, or what it could have left
-- before. The first of the sheets and the script that isn't there or is too long is refused so, and no other is; what
-- is wrong in them is told; those that give a head make its archive where there is none, but for want of memory and
-- calls that fail.
pub record IsCreated {D : Type 0} (device : Device D) (e : Call D) (files : Files)
    (words : CreateWords) : Type 0 where
  pub made : Succeeded e → (head : Head) × GivesHead files words (Ok head) × IsMadeOf device e head
      × Prints e (create_line head)
  pub there : e.report.opened ≡ true → (head : Head) × GivesHead files words (Ok head) × IsMadeOf device e head
  pub printed : (head : Head) → GivesHead files words (Ok head) → PrintsSome e (create_line head)
  pub kept : BeginsOpen (device.reads e.disk 0) → LeavesDisk device e
  pub exists : (head : Head) → GivesHead files words (Ok head) → BeginsOpen (device.reads e.disk 0)
      → IsRefusedBy device e Exists × Prints e []
  pub unread : (refusal : Refusal) → IsFirstUnread files (create_files words) refusal
      → IsRefusedBy device e refusal × Prints e []
  pub only_unread : (refusal : Refusal) → e.report.refusal ≡ Some refusal → IsReadingRefusal refusal
      → IsFirstUnread files (create_files words) refusal
  pub refused : (refusal : Refusal) → GivesHead files words (Err refusal) → IsRefusedBy device e refusal × Prints e []
  pub images : ((image : Image) → device.images e.disk image → HoldsNone (image 0))
      → LeavesOnly device e.disk e.disk' (IsNoneOrHead files words)
  pub in_order : e.report.opened ≡ false → HoldsNone (device.reads e.disk 0) → FailedAtMostOnce device e.disk e.disk'
      → (image : Image) → device.images e.disk' image → device.images e.disk image ⊎ HoldsNone (image 0)
  pub complete : (head : Head) → GivesHead files words (Ok head) → HoldsNone (device.reads e.disk 0)
      → Succeeded e ⊎ WasInterrupted device e
  pub report : IsUnopened e ⊎ (e.report ≡ read_only e.report.refusal 0)

-- so it is of each call for this job
abbrev pub CreateClause : {D : Type 0} → Device D → Type 0
CreateClause {D = D} device =
    (e : Call D) (files : Files) (clock : Option ℤ) (words : CreateWords) → IsRun device e files clock (Create words)
    → IsCreated device e files words
