-- What a source of sealed rows is after its disk was looked at.
use Rattle.std.proofs.Common.{◌≡◌, ℕ, List, [], ◌∷◌, Bool, true, false, refl, sym, ap, ◌∙◌, subst, arith}
use Rattle.std.specs.Prelude.{IsTrue, IsErrAnd, IsNone, IfSome, IfOk, IfErr, Result, Ok, Err}
use Rattle.std.specs.List.{Contains}
use Rattle.arch_disk.specs.Image.{Image}
use Rattle.arch_disk.specs.Disk.{Device, NoFault, OnlyReads}
use Rattle.arch_types.specs.declared.row.Row.{Row}
use Rattle.arch_types.specs.declared.row_fault.RowFault.{RowFault}
use Rattle.arch_types.specs.declared.row_fault.RowFault.TheVariants as row_faults
use Rattle.replay_merge.specs.RowSource.{AreRowSourceHistories, IsRowFault, UsedRowSource, told_if}
use Rattle.run_pages.specs.Placed.{rows_of_placed}
use Rattle.run_files.specs.Calls.{IsPageRefusal}
use Rattle.run_files.specs.declared.run.Run.{Run}
use Rattle.run_files.specs.declared.fault.RunFault.{RunFault}
use Rattle.run_files.specs.declared.fault.RunFault.TheVariants as run_faults
use Rattle.run_files.proofs.RunPages.{held_on}
use Rattle.sealed_rows.specs.Rows.{rows_below, rows_of_runs}
use Rattle.sealed_rows.specs.Calls.{AreRunsOn, IsReadFault, row_fault}
use Rattle.sealed_rows.specs.Sealed.{AreSealed, sealed_state}

-- a history that is told, where something holds of it
pub when_told : (b : Bool) (history : ℕ → List Row) (P : (ℕ → List Row) → Type 0) → (IsTrue b → P history) → IfSome (told_if b history) P
when_told true history P holds = holds refl
when_told false history P holds = tt

module _ {D : Type 0} (device : Device D) where
  pub page_fault : (run : Run) (old new : D) (fault : RunFault) → IsPageRefusal device run old new fault → IsReadFault device old new (row_fault fault)
  page_fault run old new (run_faults.Damaged file at) is = (is.0, is.2)
  page_fault run old new (run_faults.DiskFault true) is = absurd is
  page_fault run old new (run_faults.DiskFault false) is = is
  page_fault run old new run_faults.Limit is = absurd is
  page_fault run old new run_faults.OutOfMemory is = is

  -- a fault behind looks that met none is one of all of them
  pub fault_since : (old mid new : D) (fault : RowFault) → OnlyReads device old mid → NoFault device old mid → IsReadFault device mid new fault → IsReadFault device old new fault
  fault_since old mid new row_faults.DiskFault looked calm is = omega (arith, looked.later, is)
  fault_since old mid new (row_faults.Damaged file at) looked calm is = (is.0, is.1 ∙ calm)
  fault_since old mid new row_faults.OutOfMemory looked calm is = is ∙ calm

  pub runs_on : (runs : List Run) (old new : D) → OnlyReads device old new → AreRunsOn device runs old → AreRunsOn device runs new
  runs_on [] old new looked all = tt
  runs_on (run ∷ runs) old new looked all = (held_on device run old new looked all.0, runs_on runs old new looked all.1)

  module _ (runs : List Run) (old new : D) (looked : OnlyReads device old new) where
    -- what was sealed still is
    pub still_sealed : (IsTrue device.is_transparent → AreSealed device runs old) → IsTrue device.is_transparent → AreSealed device runs new
    still_sealed sealed transparent =
        let is = sealed transparent in
        record {
          held = runs_on runs old new looked is.held;
          histories = subst (λ (reads : Image). AreRowSourceHistories (rows_below (rows_of_runs reads runs))) (sym looked.reads_same) is.histories;
        }

    pub used_sealed : UsedRowSource (sealed_state device runs old) (sealed_state device runs new)
    used_sealed = record {
      told = ap (λ (reads : Image). told_if device.is_transparent (rows_below (rows_of_runs reads runs))) looked.reads_same;
      no_others = λ row may transparent. subst (λ (reads : Image). Contains (rows_of_placed (rows_of_runs reads runs)) row) looked.reads_same (may transparent);
      no_other_fault = λ may. may;
      later = looked.later;
    }

    pub sealed_fault : (fault : RowFault) → IsReadFault device old new fault → IsRowFault (sealed_state device runs old) (sealed_state device runs new) fault
    sealed_fault row_faults.DiskFault is = (tt, is)
    sealed_fault (row_faults.Damaged file at) is = (tt, by device.is_transparent is.0, is.1)
      where
        by : (b : Bool) → (IsTrue b → ⊥) → IsNone (told_if b (rows_below (rows_of_runs (device.reads old) runs)))
        by true never = absurd (never refl)
        by false never = refl
    sealed_fault row_faults.OutOfMemory is = is

  pub sealed_histories : (runs : List Run) (disk : D) → (IsTrue device.is_transparent → AreSealed device runs disk) → IfSome (sealed_state device runs disk).history AreRowSourceHistories
  sealed_histories runs disk sealed = when_told device.is_transparent (rows_below (rows_of_runs (device.reads disk) runs)) AreRowSourceHistories (λ transparent. (sealed transparent).histories)

-- the same of what a call answers
pub told_result : {X : Type 0} (result : Result X RowFault) (b : Bool) (history : ℕ → List Row) (P : X → (ℕ → List Row) → Type 0) → (IsTrue b → IfOk result (λ x. P x history)) → IfOk result (λ x. IfSome (told_if b history) (P x))
told_result (Ok x) b history P holds = when_told b history (P x) holds
told_result (Err fault) b history P holds = tt

pub ok_follows : {X : Type 0} (result : Result X RowFault) (P Q : X → Type 0) → ((x : X) → P x → Q x) → IfOk result P → IfOk result Q
ok_follows (Ok x) P Q follows holds = follows x holds
ok_follows (Err fault) P Q follows holds = tt

pub err_follows : {X : Type 0} (result : Result X RowFault) (P Q : RowFault → Type 0) → ((fault : RowFault) → P fault → Q fault) → IfErr result P → IfErr result Q
err_follows (Ok x) P Q follows holds = tt
err_follows (Err fault) P Q follows holds = follows fault holds

pub ok_both : {X : Type 0} (result : Result X RowFault) (P Q R : X → Type 0) → ((x : X) → P x → Q x → R x) → IfOk result P → IfOk result Q → IfOk result R
ok_both (Ok x) P Q R both first second = both x first second
ok_both (Err fault) P Q R both first second = tt

-- what holds of the fault that a `?` hands on
pub passed_on : {X : Type 0} (result : Result X RowFault) (fault : RowFault) (P : RowFault → Type 0) → IsErrAnd result (λ e. e ≡ fault) → P fault → IfErr result P
passed_on (Ok x) fault P is holds = tt
passed_on (Err e) fault P is holds = subst P (sym is) holds
