-- Why rows of a store aren't read, and what reading them leaves.
use Rattle.std.specs.Prelude.{◌≡◌, ◌⊎◌, ◌++◌, ℕ, List, [], false, IsNone, MatchResult, Result}
use Rattle.std.specs.List.{AllByRecursion}
use Rattle.arch_disk.specs.Disk.{Device, NoFault, OnlyReads}
use Rattle.arch_types.specs.declared.row_fault.RowFault.{RowFault}
use Rattle.arch_types.specs.declared.row_fault.RowFault.TheVariants.{DiskFault, Damaged, OutOfMemory}
use Rattle.refusals.specs.declared.refusal.Refusal.{Refusal}
use Rattle.refusals.specs.declared.refusal.Refusal.TheVariants as refused
use Rattle.refusals.specs.Refusal.{refusal_of_rows}
use Rattle.history_items.specs.declared.fills.Addition.TheVariants.{Nothing}
use Rattle.history_items.specs.declared.fills.Fill.{Fill}
use Rattle.history_items.specs.declared.fills.Fill.TheVariants.{Fault}
use Rattle.replay_merge.specs.RowSource.{IsRowFault}
use Rattle.archive_store.specs.Pages.{HasPages}
use Rattle.archive_store.specs.Replays.{source_state}
use Rattle.archive_store.specs.StoreView.{AddsFault, StoreView}

-- ---- why rows aren't read

-- The read of a page failed, which adds one fault, by which no write failed; a page breaks its format, which never
-- comes where the rows are told; or memory is wanting.
abbrev pub IsReadFault : {D : Type 0} → Device D → StoreView D → StoreView D → RowFault → Type 0
IsReadFault device old new DiskFault = HasPages old × AddsFault device old new false Nothing
IsReadFault device old new (Damaged file at) = HasPages old × IsNone (source_state device old).history
IsReadFault device old new OutOfMemory = Unit {0}

-- the same of the refusal that it is answered by
abbrev pub IsReadRefusal : {D : Type 0} → Device D → StoreView D → StoreView D → Refusal → Type 0
IsReadRefusal device old new refusal =
    (fault : RowFault) × IsReadFault device old new fault × (refusal ≡ refusal_of_rows fault)

-- Why rows aren't read, where any number of reads was asked for: the read of a page failed, which the disk's count of
-- faults tells; a page breaks its format, which never comes where the rows are told; or memory is wanting.
abbrev pub IsSourceFault : {D : Type 0} → Device D → StoreView D → StoreView D → RowFault → Type 0
IsSourceFault device old new fault = IsRowFault (source_state device old) (source_state device new) fault

-- ---- what reading rows leaves

-- pages were read: all but the disk, which was only read, and the fill list is as it was
pub record ReadsPages {D : Type 0} (device : Device D) (old new : StoreView D) : Type 0 where
  pub paged : HasPages old
  pub same : new ≡ record old { disk = new.disk; fills = new.fills }
  pub disk : OnlyReads device old.disk new.disk

-- rows were read and no read failed: all is as it was, but for a disk whose pages were read
abbrev pub ReadsRows : {D : Type 0} → Device D → StoreView D → StoreView D → Type 0
ReadsRows device old new =
    (new ≡ old)
    ⊎ (ReadsPages device old new × (new.fills ≡ old.fills) × NoFault device old.disk new.disk)

-- A refusal by a failed read leaves its fault in the fill list, which `IsReadRefusal` tells; any other leaves what rows
-- that were read leave.
abbrev pub IsLeftByRefusal : {D : Type 0} → Device D → StoreView D → StoreView D → Refusal → Type 0
IsLeftByRefusal device old new refused.DiskFault = ReadsPages device old new
IsLeftByRefusal device old new refusal = ReadsRows device old new

-- the same of an answer, or a refusal
abbrev pub IsLeftByAnswer : {D X : Type 0} → Device D → StoreView D → StoreView D → Result X Refusal → Type 0
IsLeftByAnswer device old new answer =
    MatchResult answer (λ _. ReadsRows device old new) (IsLeftByRefusal device old new)

-- of an answer, or why rows aren't read
abbrev pub IsLeftByRead : {D X : Type 0} → Device D → StoreView D → StoreView D → Result X RowFault → Type 0
IsLeftByRead device old new answer =
    MatchResult answer (λ _. ReadsRows device old new) (λ fault. IsLeftByRefusal device old new (refusal_of_rows fault))

-- ---- what any number of reads leaves

-- a fault of a read: no write failed, and nothing was to be added
abbrev pub IsFaultOfRead : Fill → Type 0
IsFaultOfRead item = (count : ℕ) × (item ≡ Fault count false Nothing)

-- A store was read: but for its disk, which was only read, and faults of reads at the end of the fill list, all is as it
-- was; without rows in runs all is.
pub record IsReadOn {D : Type 0} (device : Device D) (old new : StoreView D) : Type 0 where
  pub faults : List Fill
  pub each : AllByRecursion IsFaultOfRead faults
  pub same : new ≡ record old { disk = new.disk; fills = old.fills ++ faults }
  pub disk : OnlyReads device old.disk new.disk
  pub no_fault : faults ≡ [] → NoFault device old.disk new.disk
  pub plain : old.sealed ≡ 0 → new ≡ old
