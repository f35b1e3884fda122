-- A run that is read page after page.
use Rattle.std.proofs.Common.{◌≡◌, inl, inr, ℕ, List, true, false, sym, ◌∙◌, subst, arith}
use Rattle.arch_disk.specs.Image.{Image}
use Rattle.arch_disk.specs.Disk.{Device, NoFault}
use Rattle.run_files.specs.Opening.{IsPageReadRefusal, IsReadingRun, IsRunStartRefusal, file_opened}
use Rattle.run_files.specs.declared.opening.RunOpening.{RunOpening}
use Rattle.run_files.specs.declared.fault.RunFault.{RunFault}
use Rattle.run_files.specs.declared.fault.RunFault.TheVariants.{Damaged, DiskFault, Limit, OutOfMemory}
use Rattle.run_pages.specs.Damage.{IsBrokenPage}
use Rattle.run_pages.specs.Placed.{Placed}
use Rattle.sealed_opening.specs.ReadRefusals.{IsReadRefusal}
use Rattle.sealed_opening.specs.Runs.{IsDamagedRun, IsRunNoteFault, run_refusal}

-- the same reading by an equal file
pub in_run : (opening : RunOpening) (image other : Image) (file there : ℕ) (pages : List (List Placed)) → other ≡ image → there ≡ file → IsReadingRun opening (image file) pages → IsReadingRun opening (other there) pages
in_run opening image other file there pages same at is =
    subst (λ (n : ℕ). IsReadingRun opening (other n) pages) (sym at) (subst (λ (r : Image). IsReadingRun opening (r file) pages) (sym same) is)

module _ {D : Type 0} (device : Device D) (file : ℕ) where
  -- a run has no index
  pub begin_fault : (before after : D) (fault : RunFault) → IsRunStartRefusal device file before after fault → IsRunNoteFault device file before after fault
  begin_fault before after (Damaged f at) h = (h.0, (λ transparent. inl (h.2 transparent, h.1)), h.3)
  begin_fault before after Limit h = absurd h
  begin_fault before after (DiskFault true) h = absurd h
  begin_fault before after (DiskFault false) h = h
  begin_fault before after OutOfMemory h = h

  -- a page is broken
  pub next_fault : (opening : RunOpening) (before mid after : D) (fault : RunFault) → file_opened opening ≡ file → device.reads mid ≡ device.reads before → NoFault device before mid → IsPageReadRefusal device opening mid after fault → IsRunNoteFault device file before after fault
  next_fault opening before mid after (Damaged f at) file_is same none h =
      (h.0 ∙ file_is, (λ transparent. inr (subst (λ (n : ℕ). IsBrokenPage (device.reads before n) at) file_is (subst (λ (r : Image). IsBrokenPage (r (file_opened opening)) at) same (h.1 transparent)))), h.2 ∙ none)
  next_fault opening before mid after Limit file_is same none h = absurd h
  next_fault opening before mid after (DiskFault true) file_is same none h = absurd h
  next_fault opening before mid after (DiskFault false) file_is same none h = omega (arith, h, none)
  next_fault opening before mid after OutOfMemory file_is same none h = h ∙ none

  -- memory is wanting
  pub want_fault : (before after : D) (fault : RunFault) → fault ≡ OutOfMemory → NoFault device before after → IsRunNoteFault device file before after fault
  want_fault before after fault is none = subst (IsRunNoteFault device file before after) (sym is) none

  -- the refusal for it
  pub run_refused : (before after : D) (fault : RunFault) → IsRunNoteFault device file before after fault → IsReadRefusal (IsDamagedRun (device.reads before) file) device before after (run_refusal fault)
  run_refused before after (Damaged f at) h = (λ transparent. (h.0, h.1 transparent), h.2)
  run_refused before after Limit h = absurd h
  run_refused before after (DiskFault true) h = absurd h
  run_refused before after (DiskFault false) h = h
  run_refused before after OutOfMemory h = h
