-- What becomes of the late intervals of a store.
use Rattle.std.specs.Prelude.{◌≡◌, ◌≢◌, ◌⊎◌, ℕ, zero, suc, ◌+◌, ◌≤◌, true, false, List, [], ◌∷◌, ◌++◌, length, nat_lt, Option, Some, None, if◌then◌else◌}
use Rattle.std.specs.Arc.{arc_value}
use Rattle.arch_disk.specs.Disk.{Device, NoWriteFailed, OnlyReads, raised, NoFault}
use Rattle.intervals.specs.declared.interval.Interval.{Interval}
use Rattle.refusals.specs.declared.refusal.Refusal.{Refusal}
use Rattle.refusals.specs.declared.refusal.Refusal.TheVariants.{Damaged, DiskFault, Limit, NeedsReopen, OutOfMemory}
use Rattle.refusals.specs.declared.refusal.Which.TheVariants.{Records}
use Rattle.refusals.specs.Limits.{limit_of}
use Rattle.history_items.specs.declared.fills.Addition.TheVariants as additions
use Rattle.history_items.specs.declared.fills.Fill.TheVariants.{Fault}
use Rattle.history_items.specs.Databases.{database_in}
use Rattle.history_items.specs.Fills.{pending_fault_of}
use Rattle.history_items.specs.Late.{IsLate}
use Rattle.interval_fills.specs.Intervals.{rows_of_interval}
use Rattle.interval_walks.specs.Counts.{late_intervals}
use Rattle.param_segments.specs.Rows.{SetRow}
use Rattle.store_fills.specs.Built.{BuiltFill, IsTaskRows, built_fill}
use Rattle.store_fills.specs.Faults.{faults_in}
use Rattle.store_fills.specs.Filled.{HoldsRows}
use Rattle.store_fills.specs.LastFills.{fillings_in}
use Rattle.store_fills.specs.declared.task.FillTask.{FillTask}
use Rattle.archive_store.specs.Installs.{FillIsAppended, IsAbandoned, IsInstallable}
use Rattle.archive_store.specs.Pages.{HasPages, TellsRows}
use Rattle.archive_store.specs.StoreView.{AddsFault, StoreView}
use Rattle.archive_store.specs.AddedFills.{AddsRightFills}

-- ---- one task

-- a task that just began, over the whole history, of the interval's rows where the store tells its rows
pub record IsBegunTask {D : Type 0} (device : Device D) (store : StoreView D) (task : FillTask) : Type 0 where
  pub base : task.base ≡ length store.history
  pub exponent : task.exponent ≡ store.exponent
  pub late : IsLate store.exponent task.interval store.history store.fills
  pub rows : TellsRows device store → task.rows ≡ rows_of_interval store.exponent task.interval store.history
  pub in_order : IsTaskRows task.exponent task.interval task.rows
  pub mdb : arc_value task.mdb ≡ database_in store.head.mdb store.history

-- the fill that a task builds, by its set
abbrev pub task_fill : FillTask → List SetRow → BuiltFill
task_fill task set = built_fill task.interval task.exponent task.base (arc_value task.mdb) set

-- a set of its interval is there, which holds the cells that the interval's rows give, where the store tells its rows
pub record IsTaskFilled {D : Type 0} (device : Device D) (old new : StoreView D) (task : FillTask) : Type 0 where
  pub set : List SetRow
  pub installable : IsInstallable old
  pub appended : FillIsAppended device old new (task_fill task set)
  pub holds : TellsRows device old → HoldsRows (database_in old.head.mdb old.history) set
      (rows_of_interval old.exponent task.interval old.history)

-- why a task was given up
abbrev pub IsTaskRefusal : {D : Type 0} → Device D → StoreView D → StoreView D → FillTask → Refusal → Type 0
IsTaskRefusal device old new task OutOfMemory = IsAbandoned old new task.interval
IsTaskRefusal device old new task (NeedsReopen faults) =
    (pending_fault_of old.fills ≡ Some faults) × IsAbandoned old new task.interval
IsTaskRefusal device old new task (Limit which number) =
    (which ≡ Records) × (number ≡ limit_of Records) × (limit_of Records ≤ old.records)
    × IsAbandoned old new task.interval
IsTaskRefusal {D = D} device old new task DiskFault =
    (pending_fault_of old.fills ≡ None)
    × ((failed : StoreView D) × AddsFault device old failed true (additions.Fill task.interval task.base)
    × IsAbandoned failed new task.interval)
IsTaskRefusal device old new task _ = ⊥

-- ---- all late intervals

-- why a log of so many records can't take so many fills, each of which is a record
abbrev pub filling_refusal : ℕ → ℕ → Option Refusal
filling_refusal records zero = None
filling_refusal records (suc late) =
    if nat_lt (limit_of Records) (records + suc late) then Some (Limit Records (limit_of Records)) else None

-- no fault came, and no call of the disk failed
pub record IsUnfailed {D : Type 0} (device : Device D) (old new : StoreView D) : Type 0 where
  pub same_faults : faults_in new.fills ≡ faults_in old.fills
  pub no_failed_write : NoWriteFailed device old.disk new.disk
  pub no_fault : NoFault device old.disk new.disk

-- where no failed write was pending a fault came, which holds a fill, by a write that failed and is pending
pub record IsFillFailed {D : Type 0} (device : Device D) (old new : StoreView D) : Type 0 where
  pub healed : pending_fault_of old.fills ≡ None
  pub count : ℕ
  pub interval : Interval
  pub base : ℕ
  pub fault : faults_in new.fills ≡ faults_in old.fills ++ Fault count true (additions.Fill interval base) ∷ []
  pub wrote : device.failed_writes new.disk ≡ raised (device.failed_writes old.disk)

-- a read of a late interval's rows failed: a fault came, by which no write failed and nothing was to be added
pub record IsFillUnread {D : Type 0} (device : Device D) (old new : StoreView D) : Type 0 where
  pub paged : HasPages old
  pub late : late_intervals old.exponent old.history old.fills ≢ []
  pub count : ℕ
  pub fault : faults_in new.fills ≡ faults_in old.fills ++ Fault count false additions.Nothing ∷ []
  pub rose : raised (device.fault_count old.disk) ≤ device.fault_count new.disk
  pub no_failed_write : NoWriteFailed device old.disk new.disk

-- each late interval was filled, so many were there, and each took a record
pub record AllLateFilled {D : Type 0} (device : Device D) (old new : StoreView D) (filled : ℕ) : Type 0 where
  pub none_late : (i : Interval) → IsLate new.exponent i new.history new.fills → ⊥
  pub count : filled ≡ length (late_intervals old.exponent old.history old.fills)
  pub fits : filling_refusal old.records filled ≡ None
  pub records : new.records ≡ old.records + filled
  pub unfailed : IsUnfailed device old new

-- Why not each late interval was filled: a failed write is pending; there's no place for a record for each, and the log
-- is full; no memory; the disk failed, at a fill or where rows were read; or a page breaks its format, which never
-- comes where the store tells its rows.
abbrev pub IsFillingRefusal : {D : Type 0} → Device D → StoreView D → StoreView D → Refusal → Type 0
IsFillingRefusal device old new OutOfMemory = IsUnfailed device old new
IsFillingRefusal device old new (NeedsReopen faults) =
    (pending_fault_of old.fills ≡ Some faults) × IsUnfailed device old new
IsFillingRefusal device old new (Limit which number) =
    (filling_refusal old.records (length (late_intervals old.exponent old.history old.fills))
    ≡ Some (Limit which number))
    × (limit_of Records ≤ new.records) × IsUnfailed device old new
IsFillingRefusal device old new DiskFault = IsFillFailed device old new ⊎ IsFillUnread device old new
IsFillingRefusal device old new (Damaged file at) =
    HasPages old × (TellsRows device old → ⊥) × IsUnfailed device old new
    × (late_intervals old.exponent old.history old.fills ≢ [])
IsFillingRefusal device old new _ = ⊥

-- What filling leaves whatever it came to: the rows of the same archive since the same opening, the records, and the
-- fills that were there, but where a late interval got one, a right one where the store tells its rows. Where none was
-- late all is as it was, and while a failed write was pending the disk was only read, and not at all without rows in
-- runs.
pub record IsFilledOn {D : Type 0} (device : Device D) (old new : StoreView D) : Type 0 where
  pub rows : new.history ≡ old.history
  pub head : new.head ≡ old.head
  pub exponent : new.exponent ≡ old.exponent
  pub opened : new.opened ≡ old.opened
  pub sealed : new.sealed ≡ old.sealed
  pub records : old.records ≤ new.records
  pub sets : TellsRows device old →
      AddsRightFills old.head old.exponent old.history (fillings_in old.filled) (fillings_in new.filled)
  pub unchanged : late_intervals old.exponent old.history old.fills ≡ [] → new ≡ old
  pub no_write : pending_fault_of old.fills ≢ None → OnlyReads device old.disk new.disk
  pub no_call : pending_fault_of old.fills ≢ None → old.sealed ≡ 0 → new.disk ≡ old.disk
