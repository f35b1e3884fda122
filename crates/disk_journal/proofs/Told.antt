-- What a run of calls tells of the faults of the disk.
use Rattle.std.proofs.Common.{◌≡◌, ℕ, ◌≤◌, sym, ◌∙◌, subst}
use Rattle.std.specs.Prelude.{true, false, Result, Ok, Err, IfErr, IsErrAnd}
use Rattle.arch_disk.specs.Disk.{Device, NoFault, NoWriteFailed, raised}
use Rattle.arch_disk.specs.Image.{Image}
use Rattle.disk_journal.specs.Calls.{IsBeginRefusal, IsStartRefusal}
use Rattle.disk_journal.specs.Format.{HoldsNone}
use Rattle.disk_journal.specs.Faults.{IsToldBy, TellsFaults}
use Rattle.disk_journal.specs.declared.fault.JournalFault.{JournalFault}
use Rattle.disk_journal.specs.declared.fault.JournalFault.TheVariants.{Exists, NoArchive, Damaged, NeedsReopen, Limit, DiskFault, OutOfMemory}

pub err_too : {T E : Type 0} {P Q : E → Type 0} (r : Result T E) → ((e : E) → P e → Q e) → IfErr r P → IfErr r Q
err_too (Ok x) f p = tt
err_too (Err e) f p = f e p

module _ {D : Type 0} (device : Device D) where
  -- behind calls of which none failed
  pub fault_behind : (fault : JournalFault) (old mid new : D) → NoFault device old mid → IsToldBy device mid new fault → IsToldBy device old new fault
  fault_behind Exists old mid new none told = told ∙ none
  fault_behind NoArchive old mid new none told = told ∙ none
  fault_behind (Damaged at) old mid new none told = told ∙ none
  fault_behind (NeedsReopen faults) old mid new none told = told ∙ none
  fault_behind Limit old mid new none told = told ∙ none
  fault_behind (DiskFault wrote) old mid new none told = tt
  fault_behind OutOfMemory old mid new none told = told ∙ none

  pub told_behind : {T : Type 0} (result : Result T JournalFault) (old mid new : D) → NoFault device old mid → TellsFaults device mid new result → TellsFaults device old new result
  told_behind (Ok x) old mid new none told = record { done = told.done ∙ none; refused = tt }
  told_behind (Err fault) old mid new none told = record { done = tt; refused = fault_behind fault old mid new none told.refused }

  -- a fault that is handed on
  pub told_on : {T : Type 0} (result : Result T JournalFault) (fault : JournalFault) (old new : D) → IsErrAnd result (λ e. e ≡ fault) → IsToldBy device old new fault → TellsFaults device old new result
  told_on (Ok x) fault old new is told = absurd is
  told_on (Err e) fault old new is told = record { done = tt; refused = subst (IsToldBy device old new) (sym is) told }

  -- a write that failed is told
  pub told_write : (fault : JournalFault) (old new : D) → fault ≡ DiskFault true → IsToldBy device old new fault
  told_write fault old new is = subst (IsToldBy device old new) (sym is) tt

  -- no reading began behind a sync
  pub not_begun : (file : ℕ) (before mid after : D) (fault : JournalFault) → device.reads mid ≡ device.reads before → NoFault device before mid → NoWriteFailed device before mid → NoWriteFailed device mid after
      → IsStartRefusal device file mid after fault → IsBeginRefusal device file before after fault
  not_begun file before mid after NoArchive same none first second h = ((λ transparent. subst (λ (r : Image). HoldsNone (r file)) same (h transparent)), second ∙ first)
  not_begun file before mid after (DiskFault false) same none first second h = record { rose = subst (λ (n : ℕ). raised n ≤ device.fault_count after) none h; writes = second ∙ first }
  not_begun file before mid after (DiskFault true) same none first second h = absurd h
  not_begun file before mid after Exists same none first second h = absurd h
  not_begun file before mid after (Damaged at) same none first second h = absurd h
  not_begun file before mid after (NeedsReopen faults) same none first second h = absurd h
  not_begun file before mid after Limit same none first second h = absurd h
  not_begun file before mid after OutOfMemory same none first second h = absurd h
