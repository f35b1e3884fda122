-- Why no archive was read.
use Rattle.std.proofs.Common.{◌≡◌, ◌∙◌, ℕ, Option, refl, subst, arith}
use Rattle.std.specs.Prelude.{true, false, IsTrue, Result, Ok, Err, IfErr, OnErr}
use Rattle.arch_disk.specs.Disk.{Device, NoFault}
use Rattle.refusals.specs.declared.refusal.Refusal.TheVariants as refused
use Rattle.disk_journal.specs.Calls.{IsNextRefusal, content_read, read_so_far}
use Rattle.disk_journal.specs.Faults.{IsToldBy}
use Rattle.disk_journal.specs.Reading.{IsCutShortAt, file_read, gate_of}
use Rattle.disk_journal.specs.declared.opening.Opening.{Opening}
use Rattle.disk_journal.specs.declared.fault.JournalFault.{JournalFault}
use Rattle.disk_journal.specs.declared.fault.JournalFault.TheVariants.{Exists, NoArchive, Damaged, NeedsReopen, Limit, DiskFault, OutOfMemory}
use Rattle.archive_reading.specs.declared.partial.PartialArchive.{PartialArchive}
use Rattle.archive_images.specs.Stands.{IsFileDamagedAt}
use Rattle.archive_reading.specs.PartialArchive.{archive_made, read_refusal, IsArchiveReadRefusal}

-- what holds of the only refusal that there is
pub only_refusal : {T E : Type 0} (r : Result T E) (cause : Type 0) (e : E) (P : E → Type 0) → OnErr r (cause × (r ≡ Err e)) → (cause → P e) → IfErr r P
only_refusal (Ok x) cause e P refused holds = tt
only_refusal (Err f) cause e P refused holds = let same : e ≡ f = cc (refused.1) in subst P same (holds refused.0)

module _ {D : Type 0} (device : Device D) where
  -- why the next record was not read is why no archive was
  pub next_refused : (first opening : Opening) (base : Option PartialArchive) (old before after : D) (fault : JournalFault) → IsNextRefusal device opening before after fault → IsToldBy device before after fault → NoFault device old before
      → (IsTrue device.is_transparent → (at : ℕ) → (at ≡ gate_of opening) × IsCutShortAt (content_read device opening before) (read_so_far device opening before) → IsFileDamagedAt (device.reads old) (file_read first) (read_so_far device first old) (archive_made base) at)
      → IsArchiveReadRefusal device old after first base (read_refusal (file_read first) fault)
  next_refused first opening base old before after Exists refusal told none cut = absurd refusal
  next_refused first opening base old before after NoArchive refusal told none cut = absurd refusal
  next_refused first opening base old before after (Damaged at) refusal told none cut = (λ transparent. (refl, cut transparent at (refusal transparent)), told ∙ none)
  next_refused first opening base old before after (NeedsReopen faults) refusal told none cut = absurd refusal
  next_refused first opening base old before after Limit refusal told none cut = absurd refusal
  next_refused first opening base old before after (DiskFault true) refusal told none cut = absurd refusal
  next_refused first opening base old before after (DiskFault false) refusal told none cut = omega (arith, refusal, none)
  next_refused first opening base old before after OutOfMemory refusal told none cut = told ∙ none
