-- How a failed write is taken back, behind all that a command writes.
use Rattle.std.specs.Prelude.{◌≡◌, ◌⊎◌, ℕ, ◌≤◌, Bool, false, List, ◌∷◌, ◌++◌, None}
use Rattle.std.specs.List.{AllByRecursion}
use Rattle.arch_disk.specs.Disk.{Device, NoWriteFailed, raised}
use Rattle.history_items.specs.declared.fills.Addition.{Addition}
use Rattle.history_items.specs.declared.fills.Fill.{Fill}
use Rattle.history_items.specs.declared.fills.Fill.TheVariants.{Fault}
use Rattle.history_items.specs.Fills.{pending_fault_of, reopened}
use Rattle.store_fills.specs.Faults.{faults_in}
use Rattle.archive_store.specs.Calls.{CrashLeavesNow}
use Rattle.archive_store.specs.StoreView.{FaultInvariant, StoreView}
use Rattle.archive_store.specs.UnreadRows.{IsFaultOfRead}

-- ---- one attempt

-- the failed writes are as if they had never been made, and none failed more
pub record IsUndone {D : Type 0} (device : Device D) (old new : StoreView D) : Type 0 where
  pub fills : new.fills ≡ reopened old.fills
  pub no_failed_write : NoWriteFailed device old.disk new.disk

-- one more failed, and they are pending still
pub record HasFailedAgain {D : Type 0} (device : Device D) (old new : StoreView D) : Type 0 where
  pub fills : new.fills ≡ old.fills
  pub rose : raised (device.fault_count old.disk) ≤ device.fault_count new.disk
  pub wrote : device.failed_writes new.disk ≡ raised (device.failed_writes old.disk)

-- It was tried once to take back what is pending. Where nothing was the store is as before, and else all but its fill
-- list and its disk, on which power lost meanwhile leaves what it could have left before.
pub record TriesToHeal {D : Type 0} (device : Device D) (old new : StoreView D) : Type 0 where
  pub same : pending_fault_of old.fills ≡ None → new ≡ old
  pub left : new ≡ record old { fills = new.fills; disk = new.disk }
  pub counted : FaultInvariant device old
  pub tried : IsUndone device old new ⊎ HasFailedAgain device old new
  pub crash : CrashLeavesNow device old new.disk

-- ---- a write that failed and was taken back

-- one more or two, up to the count's last value: a failed write, and that of the one attempt to take it back
abbrev pub OneOrTwo : ℕ → ℕ → Type 0
OneOrTwo before now = (now ≡ raised before) ⊎ (now ≡ raised (raised before))

-- a fill list has this fault, and else faults of reads alone
pub record HasOneFault (fills : List Fill) (count : ℕ) (wrote : Bool) (addition : Addition) : Type 0 where
  pub before : List Fill
  pub behind : List Fill
  pub each : AllByRecursion IsFaultOfRead (before ++ behind)
  pub faults : faults_in fills ≡ before ++ Fault count wrote addition ∷ behind

-- One write failed, which was to add this, and it was tried once to take it back. That succeeded unless the disk has failed
-- twice since the opening; a second write may have failed then.
pub record IsTakenBack {D : Type 0} (device : Device D) (before : D) (store : StoreView D) (addition : Addition)
    : Type 0 where
  pub count : ℕ
  pub wrote : Bool
  pub fault : HasOneFault store.fills count wrote addition
  pub tried : (wrote ≡ false) ⊎ (raised (raised (device.fault_count store.opened)) ≤ device.fault_count store.disk)
  pub writes : OneOrTwo (device.failed_writes before) (device.failed_writes store.disk)
