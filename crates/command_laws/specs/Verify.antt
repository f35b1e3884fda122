-- The clause of `verify`.
use Rattle.std.specs.Prelude.{◌≡◌, ◌⊎◌, ℤ, IsSomeAnd, true, Option, Some, []}
use Rattle.arch_disk.specs.Disk.{Device}
use Rattle.refusals.specs.declared.refusal.Refusal.{Refusal}
use Rattle.refusals.specs.declared.refusal.Refusal.TheVariants.{Mismatch}
use Rattle.outer_traits.specs.Outside.{Files}
use Rattle.archive_store.specs.Entries.{FilledArchive}
use Rattle.archive_store.specs.Stands.{IsSoundImage, StandsFilled}
use Rattle.archive_verify.specs.Verified.{ReportsMismatch}
use Rattle.command_words.specs.Job.{Verify}
use Rattle.archive_commands.specs.Verify.{verify_line}
use Rattle.command_laws.specs.Calls.{Call, HeldArchive, IsNoArchive, IsRefusedBy, IsRun, LeavesAll, Prints, PrintsSome, Succeeded, WasInterrupted}

-- the refusal of a mismatch
abbrev pub IsMismatch : Refusal → Type 0
IsMismatch (Mismatch interval name key stored replayed) = Unit {0}
IsMismatch other = ⊥

-- what a mismatch tells of the disk handed in: an archive was opened, whose first mismatch it is, and its fills aren't
-- sound
abbrev pub IsUnsound : {D : Type 0} → Device D → Call D → Refusal → Type 0
IsUnsound device e refusal =
    (e.report.opened ≡ true) × HeldArchive device e (λ filled. ReportsMismatch filled refusal)
    × (IsSoundImage (device.reads e.disk) → ⊥)

-- It leaves all. At status 0 the archive is sound, and its line is printed; at a mismatch it isn't, and the mismatch is
-- its first. Where none is, or it is damaged, the refusal says so. A sound one is found so, and one that isn't has its
-- mismatch told, but for want of memory and calls that fail.
pub record IsVerified {D : Type 0} (device : Device D) (e : Call D) : Type 0 where
  pub left : LeavesAll device e
  pub sound : Succeeded e
      → HeldArchive device e (λ filled. IsSoundImage (device.reads e.disk) × Prints e (verify_line filled))
  pub unsound : (refusal : Refusal) → e.report.refusal ≡ Some refusal → IsMismatch refusal → IsUnsound device e refusal
  pub printed : (filled : FilledArchive) → StandsFilled (device.reads e.disk) filled → PrintsSome e (verify_line filled)
  pub no_archive : (refusal : Refusal) → IsNoArchive device e refusal → IsRefusedBy device e refusal × Prints e []
  pub complete : HeldArchive device e (λ filled. IsSoundImage (device.reads e.disk))
      → Succeeded e ⊎ WasInterrupted device e
  pub found : HeldArchive device e (λ filled. IsSoundImage (device.reads e.disk) → ⊥)
      → IsSomeAnd e.report.refusal IsMismatch ⊎ WasInterrupted device e

-- so it is of each call for this job
abbrev pub VerifyClause : {D : Type 0} → Device D → Type 0
VerifyClause {D = D} device =
    (e : Call D) (files : Files) (clock : Option ℤ) → IsRun device e files clock Verify → IsVerified device e
