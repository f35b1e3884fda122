-- How a failed write is taken back.
use Rattle.std.proofs.Common.{◌≡◌, inl, inr, ℕ, ◌≤◌, Bool, true, false, List, [], ◌∷◌, None, refl, sym, ap, subst, ◌∙◌, arith}
use Rattle.std.specs.Prelude.{Result, Ok, Err, OnOk, IfErr}
use Rattle.arch_disk.specs.Disk.{Device, raised}
use Rattle.refusals.specs.declared.refusal.Refusal.{Refusal}
use Rattle.history_items.specs.declared.fills.Addition.{Addition}
use Rattle.history_items.specs.declared.fills.Fill.{Fill}
use Rattle.history_items.specs.declared.fills.Fill.TheVariants.{Begun, Done, Freed, Fault, Closed}
use Rattle.history_items.specs.Fills.{pending_fault_of, reopened}
use Rattle.archive_store.specs.Calls.{CrashLeavesNow, IsStoreReopened, IsStoreReopenRefusal}
use Rattle.archive_store.specs.StoreView.{FaultInvariant, StoreView}
use Rattle.archive_store.proofs.Calls.{reopen_failed}
use Rattle.command_runs.specs.Healing.{HasOneFault, IsTakenBack, TriesToHeal}
use Rattle.command_runs.proofs.ReadFaults.{more_faults, one_cleared}

-- where no failed write is pending a reopen leaves the fill list
reopened_same : (fills : List Fill) → pending_fault_of fills ≡ None → reopened fills ≡ fills
reopened_same [] none = refl
reopened_same (Begun i b ∷ fills) none = ap (λ (l : List Fill). Begun i b ∷ l) (reopened_same fills none)
reopened_same (Done i b ∷ fills) none = ap (λ (l : List Fill). Done i b ∷ l) (reopened_same fills none)
reopened_same (Freed i ∷ fills) none = ap (λ (l : List Fill). Freed i ∷ l) (reopened_same fills none)
reopened_same (Closed ∷ fills) none = ap (λ (l : List Fill). Closed ∷ l) (reopened_same fills none)
reopened_same (Fault count true unacknowledged ∷ fills) none = absurd cc
reopened_same (Fault count false unacknowledged ∷ fills) none = ap (λ (l : List Fill). Fault count false unacknowledged ∷ l) (reopened_same fills none)

module _ {D : Type 0} (device : Device D) where
  -- ---- one attempt

  pub healed : (old new : StoreView D) (result : Result Unit Refusal) → FaultInvariant device old → OnOk result (IsStoreReopened device old new) → IfErr result (IsStoreReopenRefusal device old new)
      → CrashLeavesNow device old new.disk → TriesToHeal device old new
  healed old new (Ok x) counted done refused crash = record {
    same = λ none.
        done.store ∙ ap (λ (l : List Fill). record old { fills = l; disk = new.disk }) (reopened_same old.fills none)
        ∙ ap (λ (d : D). record old { disk = d }) (done.no_call none);
    left = done.store ∙ ap (λ (l : List Fill). record old { fills = l; disk = new.disk }) (sym (ap (λ (s : StoreView D). s.fills) done.store));
    counted = counted;
    tried = inl (record { fills = ap (λ (s : StoreView D). s.fills) done.store; no_failed_write = done.no_failed_write });
    crash = crash;
  }
  healed old new (Err e) counted done refused crash =
      let failed = subst (IsStoreReopenRefusal device old new) (reopen_failed device old new e refused) refused in record {
        same = λ none. absurd (failed.unhealed none);
        left = failed.store ∙ ap (λ (l : List Fill). record old { fills = l; disk = new.disk }) (sym (ap (λ (s : StoreView D). s.fills) failed.store));
        counted = counted;
        tried = inr (record { fills = ap (λ (s : StoreView D). s.fills) failed.store; rose = failed.rose; wrote = failed.wrote });
        crash = crash;
      }

  -- ---- counts of faults

  twice : (first then last : ℕ) → raised first ≤ then → raised then ≤ last → raised (raised first) ≤ last
  twice first then last once again = omega (arith, once, again)

  -- ---- a write that failed

  -- the fault of one that was pending stands at the same count, whether it was taken back or not
  pub pending_behind : (mid new : StoreView D) (addition : Addition) (count : ℕ) → TriesToHeal device mid new → HasOneFault mid.fills count true addition
      → (wrote : Bool) × HasOneFault new.fills count wrote addition
  pending_behind mid new addition count healed fault = elim healed.tried [
    | inl undone ↦ (false, subst (λ (fills : List Fill). HasOneFault fills count false addition) (sym undone.fills) (one_cleared count true addition mid.fills fault))
    | inr again ↦ (true, subst (λ (fills : List Fill). HasOneFault fills count true addition) (sym again.fills) fault)
  ]

  -- it was taken back, or one failed again
  pub taken_back : (before : D) (mid new : StoreView D) (addition : Addition) (count : ℕ) → TriesToHeal device mid new → HasOneFault mid.fills count true addition
      → device.failed_writes mid.disk ≡ raised (device.failed_writes before) → IsTakenBack device before new addition
  taken_back before mid new addition count healed fault wrote = elim healed.tried [
    | inl undone ↦ record {
      count = count;
      wrote = false;
      fault = subst (λ (fills : List Fill). HasOneFault fills count false addition) (sym undone.fills) (one_cleared count true addition mid.fills fault);
      tried = inl refl;
      writes = inl (undone.no_failed_write ∙ wrote);
    }
    | inr again ↦ record {
      count = count;
      wrote = true;
      fault = subst (λ (fills : List Fill). HasOneFault fills count true addition) (sym again.fills) fault;
      tried = inr (rose again.rose);
      writes = inr (again.wrote ∙ ap raised wrote);
    }
  ]
    where
      rose : raised (device.fault_count mid.disk) ≤ device.fault_count new.disk → raised (raised (device.fault_count new.opened)) ≤ device.fault_count new.disk
      rose more =
          let once = more_faults device mid count true addition healed.counted fault in
          subst (λ (d : D). raised (raised (device.fault_count d)) ≤ device.fault_count new.disk) (sym (ap (λ (s : StoreView D). s.opened) healed.left))
          (twice (device.fault_count mid.opened) (device.fault_count mid.disk) (device.fault_count new.disk) once more)
