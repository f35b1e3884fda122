-- The clause of `recover`.
use Rattle.std.specs.Prelude.{◌≡◌, ◌⊎◌, ◌≤◌, ◌+◌, ℕ, ℤ, List, length, true, false, Option, []}
use Rattle.arch_disk.specs.Disk.{Device, LeavesOnly}
use Rattle.disk_journal.specs.Format.{HasRecords}
use Rattle.refusals.specs.declared.refusal.Which.TheVariants.{Records}
use Rattle.refusals.specs.Limits.{limit_of}
use Rattle.outer_traits.specs.Outside.{Files}
use Rattle.archive_store.specs.Entries.{FilledArchive}
use Rattle.archive_store.specs.LateFills.{late_in_archive}
use Rattle.archive_store.specs.Stands.{IsSoundImage, StandsFilled}
use Rattle.command_words.specs.Job.{Recover}
use Rattle.archive_commands.specs.Recover.{recover_line}
use Rattle.command_runs.specs.Durable.{FailedAtMostOnce}
use Rattle.command_laws.specs.HandedBack.{IsHandedBack, IsUpToDate}
use Rattle.command_laws.specs.Calls.{Call, HasKeptRows, HasSameHistory, HeldArchive, IsNoArchive, IsRefusedBy, IsRun, IsSoundAtFirst, IsUnopened, LeavesDisk, LeavesSinceOpening, Prints, PrintsSome, Succeeded, WasInterrupted}
use Rattle.refusals.specs.declared.refusal.Refusal.{Refusal}

-- It leaves the history: an archive that was opened is handed back with it, whatever came. At status 0 no interval is
-- late, and the number that were is printed. A crash leaves that history, from the opening's syncs on, and at each
-- moment where each image of the disk handed in has it; sound images stay sound. Where the disk failed at most once it
-- is handed back in order, and where none was opened it is as it was. Where none is, or it is damaged, the refusal says
-- so; else it is filled, but for want of memory, calls that fail, and more records than a journal may have.
pub record IsRecovered {D : Type 0} (device : Device D) (e : Call D) : Type 0 where
  pub history : e.report.opened ≡ true → HasSameHistory device e (device.reads e.disk')
  pub filled : Succeeded e
      → HeldArchive device e
      (λ before. IsUpToDate device e before before.plain.history × Prints e (recover_line before))
  pub printed : (before : FilledArchive) → StandsFilled (device.reads e.disk) before
      → PrintsSome e (recover_line before)
  pub crashes : IsSoundAtFirst device e
      → LeavesOnly device e.disk e.disk' (λ image. IsSoundImage image × HasSameHistory device e image)
  pub since : e.report.opened ≡ true → LeavesSinceOpening device e (HasSameHistory device e)
  pub in_order : e.report.opened ≡ true → FailedAtMostOnce device e.disk e.disk'
      → HeldArchive device e (λ before. IsHandedBack device e before before.plain.history)
  pub untouched : e.report.opened ≡ false → LeavesDisk device e
  pub no_archive : (refusal : Refusal) → IsNoArchive device e refusal → IsRefusedBy device e refusal × Prints e []
  pub complete : (before : FilledArchive) (bodies : List (List ℕ)) → StandsFilled (device.reads e.disk) before
      → HasRecords (device.reads e.disk 0) bodies
      → length bodies + length (late_in_archive before) ≤ limit_of Records → Succeeded e ⊎ WasInterrupted device e
  pub report : IsUnopened e ⊎ HasKeptRows device e

-- so it is of each call for this job
abbrev pub RecoverClause : {D : Type 0} → Device D → Type 0
RecoverClause {D = D} device =
    (e : Call D) (files : Files) (clock : Option ℤ) → IsRun device e files clock Recover → IsRecovered device e
