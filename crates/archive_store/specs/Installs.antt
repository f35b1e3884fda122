-- What an install answers, and what each answer leaves.
use Rattle.std.specs.Prelude.{◌≡◌, ◌<◌, ◌≤◌, ◌+◌, true, None, Some}
use Rattle.arch_disk.specs.Disk.{Device, NoFault, NoWriteFailed}
use Rattle.arch_types.specs.declared.inserted.Installed.{Installed}
use Rattle.arch_types.specs.declared.inserted.Installed.TheVariants as became
use Rattle.intervals.specs.declared.interval.Interval.{Interval}
use Rattle.refusals.specs.declared.refusal.Refusal.{Refusal}
use Rattle.refusals.specs.declared.refusal.Refusal.TheVariants.{NeedsReopen, Limit, OutOfMemory, DiskFault}
use Rattle.refusals.specs.declared.refusal.Which.TheVariants.{Records}
use Rattle.refusals.specs.Limits.{limit_of}
use Rattle.history_items.specs.declared.fills.Addition.TheVariants as additions
use Rattle.history_items.specs.Fills.{pending_fault_of}
use Rattle.history_items.specs.Items.{prefix}
use Rattle.history_items.specs.Databases.{database_in}
use Rattle.interval_fills.specs.Intervals.{NoneSince}
use Rattle.interval_fills.specs.Steps.{InstallsFill, IsFillBase, freed}
use Rattle.store_fills.specs.Built.{BuiltFill}
use Rattle.store_fills.specs.Filled.{IsRightFill}
use Rattle.store_fills.specs.LastFills.{fill_over, fillings_in}
use Rattle.store_fills.specs.Sound.{with_filling}
use Rattle.archive_images.specs.Entries.{FilledArchive, filled_archive}
use Rattle.archive_store.specs.StoreView.{StoreView, AddsFault}
use Rattle.archive_store.specs.Tasks.{machine_state}

-- what a store stands for once a fill is there
abbrev pub filled_with : {D : Type 0} → StoreView D → BuiltFill → FilledArchive
filled_with store done = filled_archive store.head store.exponent store.history
    (with_filling (fillings_in store.filled) done.interval (fill_over done.base done.set))

-- a fill is of the database that is in force in the store below its base, and of the store's exponent
abbrev pub IsOwnFill : {D : Type 0} → StoreView D → BuiltFill → Type 0
IsOwnFill store done =
    (done.mdb ≡ database_in store.head.mdb (prefix done.base store.history)) × (done.exponent ≡ store.exponent)

-- and it is right for the history
abbrev pub IsRightFor : {D : Type 0} → StoreView D → BuiltFill → Type 0
IsRightFor store done =
    IsOwnFill store done
    × IsRightFill store.exponent store.head.mdb store.history done.interval done.base done.set

-- it is there, in one record more, and its interval's; its base is one that a fill may have, and it is the store's own
pub record FillIsAppended {D : Type 0} (device : Device D) (old new : StoreView D) (done : BuiltFill) : Type 0 where
  pub step : InstallsFill old.exponent (machine_state old) done.interval done.base became.Done (machine_state new)
  pub may : IsFillBase old.exponent done.interval done.base old.history
  pub own : IsOwnFill old done
  pub filled : fillings_in new.filled
      ≡ with_filling (fillings_in old.filled) done.interval (fill_over done.base done.set)
  pub records : new.records ≡ old.records + 1
  pub no_failed_write : NoWriteFailed device old.disk new.disk
  pub no_fault : NoFault device old.disk new.disk

-- a fill is given up: all but its flight stays
abbrev pub IsAbandoned : {D : Type 0} → StoreView D → StoreView D → Interval → Type 0
IsAbandoned old new interval = new ≡ record old { fills = freed interval old.fills }

-- no failed write is pending, and no limit is passed
pub record IsInstallable {D : Type 0} (store : StoreView D) : Type 0 where
  pub healed : pending_fault_of store.fills ≡ None
  pub below : store.records < limit_of Records

-- the fill is there; or it is stale and given up, and no call of the disk was made
abbrev pub IsStoreInstalled : {D : Type 0} → Device D → StoreView D → StoreView D → BuiltFill → Installed → Type 0
IsStoreInstalled device old new done became.Done = IsInstallable old × FillIsAppended device old new done
IsStoreInstalled device old new done (became.Stale position) =
    (pending_fault_of old.fills ≡ None)
    × InstallsFill old.exponent (machine_state old) done.interval done.base (became.Stale position) (machine_state new)
    × IsAbandoned old new done.interval

-- why an append of a fill is refused
abbrev pub IsFillRefusal : {D : Type 0} → Device D → StoreView D → StoreView D → BuiltFill → Refusal → Type 0
IsFillRefusal device old new done OutOfMemory = new ≡ old
IsFillRefusal device old new done DiskFault = AddsFault device old new true (additions.Fill done.interval done.base)
IsFillRefusal device old new done _ = ⊥

-- why an install is refused
abbrev pub IsInstallRefusal : {D : Type 0} → Device D → StoreView D → StoreView D → BuiltFill → Refusal → Type 0
IsInstallRefusal device old new done (NeedsReopen faults) =
    (pending_fault_of old.fills ≡ Some faults) × IsAbandoned old new done.interval
IsInstallRefusal device old new done (Limit which number) =
    (pending_fault_of old.fills ≡ None) × NoneSince old.exponent done.interval done.base old.history
    × (which ≡ Records) × (number ≡ limit_of Records) × (limit_of Records ≤ old.records)
    × IsAbandoned old new done.interval
IsInstallRefusal device old new done OutOfMemory =
    IsInstallable old × NoneSince old.exponent done.interval done.base old.history × IsAbandoned old new done.interval
IsInstallRefusal {D = D} device old new done DiskFault =
    IsInstallable old × NoneSince old.exponent done.interval done.base old.history
    × ((failed : StoreView D) × AddsFault device old failed true (additions.Fill done.interval done.base)
    × IsAbandoned failed new done.interval)
IsInstallRefusal device old new done _ = ⊥
