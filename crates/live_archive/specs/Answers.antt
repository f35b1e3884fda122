-- What the store's own calls say in a turn.
use Rattle.std.specs.Prelude.{◌≡◌, ◌⊎◌, List, Option, None, Result, MatchResult, IfSome, IfNone, IsTrue}
use Rattle.arch_disk.specs.Disk.{Device}
use Rattle.arch_types.specs.declared.inserted.Installed.{Installed}
use Rattle.arch_types.specs.declared.row.Row.{Row}
use Rattle.refusals.specs.declared.refusal.Refusal.{Refusal}
use Rattle.intervals.specs.declared.interval.Interval.{Interval}
use Rattle.history_items.specs.Databases.{database_in}
use Rattle.history_items.specs.Late.{IsLate}
use Rattle.interval_fills.specs.Intervals.{rows_of_interval}
use Rattle.param_segments.specs.Rows.{SetRow}
use Rattle.store_fills.specs.declared.task.FillTask.{FillTask}
use Rattle.store_fills.specs.Built.{BuiltFill}
use Rattle.store_fills.specs.Filled.{HoldsRows}
use Rattle.store_fills.specs.LastFills.{fillings_in}
use Rattle.archive_store.specs.declared.batch.Ingested.{Ingested}
use Rattle.archive_store.specs.Calls.{AreIngested, IsIngestRefusal}
use Rattle.archive_store.specs.CurrentSets.{IsCurrentSet}
use Rattle.archive_store.specs.Installs.{IsInstallRefusal, IsStoreInstalled}
use Rattle.archive_store.specs.UnreadRows.{IsLeftByRefusal, IsReadRefusal}
use Rattle.archive_store.specs.Stands.{IsSoundImage}
use Rattle.archive_store.specs.StoreView.{StoreView}
use Rattle.archive_store.specs.Tasks.{IsFillBegun}

-- of a batch
abbrev pub SaysIngested
    : {D : Type 0} → Device D → List Row → Result Ingested Refusal → StoreView D → StoreView D → Type 0
SaysIngested device rows answer before after =
    MatchResult answer (λ ingest. AreIngested device before after rows ingest.outcomes)
    (IsIngestRefusal device before after rows)

-- of the beginning of a fill
abbrev pub SaysBegun : {D : Type 0} → Device D → Result (Option FillTask) Refusal → StoreView D → StoreView D → Type 0
SaysBegun device answer before after =
    MatchResult answer (IsFillBegun device before after)
    (λ refusal. IsReadRefusal device before after refusal × IsLeftByRefusal device before after refusal)

-- of a fill that is installed
abbrev pub SaysInstalled
    : {D : Type 0} → Device D → BuiltFill → Result Installed Refusal → StoreView D → StoreView D → Type 0
SaysInstalled device done answer before after =
    MatchResult answer (IsStoreInstalled device before after done) (IsInstallRefusal device before after done)

-- where the disk is transparent, and its fills were sound when it was opened
abbrev pub WhereSound : {D : Type 0} → Device D → StoreView D → Type 0 → Type 0
WhereSound device store P = IsTrue device.is_transparent → IsSoundImage (device.reads store.opened) → P

-- the set of an interval's last fill, which holds what its rows give, where its fills were sound; none where the
-- interval is late or has no fill
pub record AreSegments {D : Type 0} (device : Device D) (store : StoreView D) (interval : Interval)
    (found : Option (List SetRow)) : Type 0 where
  pub some : IfSome found (IsCurrentSet store interval)
  pub none : IfNone found (IsLate store.exponent interval store.history store.fills
      ⊎ (fillings_in store.filled interval ≡ None))
  pub holds : WhereSound device store (IfSome found (λ set.
      HoldsRows (database_in store.head.mdb store.history) set
      (rows_of_interval store.exponent interval store.history)))
