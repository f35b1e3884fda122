-- Which refusals are which.
use Rattle.std.proofs.Common.{◌≡◌, ◌∙◌, inl, inr, ℕ, List, [], None, subst, arith}
use Rattle.std.specs.Prelude.{true, false, IsTrue}
use Rattle.arch_disk.specs.Disk.{Device, NoFault}
use Rattle.arch_disk.specs.Image.{Image}
use Rattle.refusals.specs.declared.refusal.Refusal.{Refusal}
use Rattle.refusals.specs.declared.refusal.Refusal.TheVariants as refused
use Rattle.disk_journal.specs.Calls.{IsBeginRefusal, IsJournalCreateRefusal, read_so_far}
use Rattle.disk_journal.specs.Faults.{IsToldBy}
use Rattle.disk_journal.specs.Reading.{file_read}
use Rattle.disk_journal.specs.declared.opening.Opening.{Opening}
use Rattle.disk_journal.specs.declared.fault.JournalFault.{JournalFault}
use Rattle.disk_journal.specs.declared.fault.JournalFault.TheVariants.{Exists, NoArchive, Damaged, NeedsReopen, Limit, DiskFault, OutOfMemory}
use Rattle.archive_images.specs.Stands.{IsArchiveDamagedAt, IsFileDamagedAt}
use Rattle.archive_store.specs.Calls.{IsStoreCreateRefusal, IsStoreOpenRefusal}
use Rattle.archive_reading.specs.PartialArchive.{read_refusal, refusal_of_create, IsArchiveReadRefusal}

module _ {D : Type 0} (device : Device D) where
  -- why no archive was read is why none was opened,
  pub read_refused : (opening : Opening) (old before after : D) (e : Refusal) → IsArchiveReadRefusal device before after opening None e → file_read opening ≡ 0 → (IsTrue device.is_transparent → read_so_far device opening before ≡ [])
      → device.reads before ≡ device.reads old → NoFault device old before → device.failed_writes after ≡ device.failed_writes old → IsStoreOpenRefusal device old after e
  read_refused opening old before after (refused.Damaged file at) refusal is_zero none_read reads none writes = record {
    damaged = λ transparent.
        let zero : file ≡ 0 = (refusal.0 transparent).0 ∙ is_zero in (
          zero,
          subst (λ (x : Image). IsArchiveDamagedAt x at) reads
              (subst (λ (n : ℕ). IsFileDamagedAt (device.reads before) n [] None at) zero
              (subst (λ (first : List (List ℕ)). IsFileDamagedAt (device.reads before) file first None at) (none_read transparent) (refusal.0 transparent).1)),
        );
    no_failed_write = writes;
    no_fault = refusal.1 ∙ none;
  }
  read_refused opening old before after refused.DiskFault refusal is_zero none_read reads none writes = record { rose = omega (arith, refusal, none); wrote_most = inl writes }
  read_refused opening old before after refused.OutOfMemory refusal is_zero none_read reads none writes = (writes, refusal ∙ none)
  read_refused opening old before after _ refusal is_zero none_read reads none writes = absurd refusal

  -- and so is why no reading began
  pub begin_refused : (before after : D) (fault : JournalFault) → IsBeginRefusal device 0 before after fault → IsToldBy device before after fault → IsStoreOpenRefusal device before after (read_refusal 0 fault)
  begin_refused before after Exists refusal told = absurd refusal
  begin_refused before after NoArchive refusal told = record { none = refusal.0; no_failed_write = refusal.1; no_fault = told }
  begin_refused before after (Damaged at) refusal told = absurd refusal
  begin_refused before after (NeedsReopen faults) refusal told = absurd refusal
  begin_refused before after Limit refusal told = absurd refusal
  begin_refused before after (DiskFault true) refusal told = record { rose = refusal.rose; wrote_most = inr refusal.writes }
  begin_refused before after (DiskFault false) refusal told = record { rose = refusal.rose; wrote_most = inl refusal.writes }
  begin_refused before after OutOfMemory refusal told = absurd refusal

  -- the refusals of a journal that is made are a creation's
  pub making_refused : (before after : D) (fault : JournalFault) → IsJournalCreateRefusal device 0 before after fault → IsToldBy device before after fault → IsStoreCreateRefusal device before after (refusal_of_create fault)
  making_refused before after Exists refusal told = record { held = λ transparent. (refusal.0 transparent).0; reads = λ transparent. (refusal.0 transparent).1; no_failed_write = refusal.1; no_fault = told }
  making_refused before after NoArchive refusal told = absurd refusal
  making_refused before after (Damaged at) refusal told = absurd refusal
  making_refused before after (NeedsReopen faults) refusal told = absurd refusal
  making_refused before after Limit refusal told = absurd refusal
  making_refused before after (DiskFault wrote) refusal told = refusal.0
  making_refused before after OutOfMemory refusal told = refusal
