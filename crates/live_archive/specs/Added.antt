-- What each call adds to what its pass has seen.
use Rattle.std.specs.Prelude.{◌≡◌, ◌⊎◌, ℕ, ◌+◌, ◌≤◌, List, [], ◌∷◌, ◌++◌, length, Contains, Option, Some, None, Result, Ok, Err, true, false, if◌then◌else◌}
use Rattle.std.specs.List.{AllByRecursion, range_with_len}
use Rattle.std.specs.Option.{is_some}
use mathlib.Core.List.{IsPrefix}
use Rattle.arch_disk.specs.Disk.{Device}
use Rattle.arch_types.specs.declared.inserted.Installed.{Installed}
use Rattle.arch_types.specs.declared.inserted.Installed.TheVariants as became
use Rattle.arch_types.specs.declared.row.Row.{Row}
use Rattle.intervals.specs.declared.interval.Interval.{Interval}
use Rattle.refusals.specs.declared.refusal.Refusal.{Refusal}
use Rattle.refusals.specs.declared.refusal.Refusal.TheVariants.{DiskFault}
use Rattle.history_items.specs.declared.fills.Addition.{Addition}
use Rattle.history_items.specs.declared.fills.Addition.TheVariants as additions
use Rattle.history_items.specs.declared.fills.Addition.TheVariants.{Nothing}
use Rattle.history_items.specs.declared.fills.Fill.{Fill}
use Rattle.history_items.specs.declared.fills.Fill.TheVariants.{Begun, Done, Freed, Fault, Closed}
use Rattle.history_items.specs.declared.items.Item.{Item}
use Rattle.history_items.specs.Fills.{in_flight}
use Rattle.history_items.specs.Items.{items_of}
use Rattle.history_items.specs.Outcomes.{fresh_of}
use Rattle.interval_fills.specs.Steps.{freed}
use Rattle.store_fills.specs.declared.task.FillTask.{FillTask}
use Rattle.store_fills.specs.Built.{BuiltFill}
use Rattle.turn_cell.specs.declared.view.SeenList.{SeenList}
use Rattle.turn_cell.specs.Pass.{PassView}
use Rattle.archive_store.specs.declared.batch.Ingested.{Ingested}
use Rattle.archive_store.specs.Pages.{HasPages, TellsRows}
use Rattle.archive_store.specs.StoreView.{StoreView}
use Rattle.archive_store.specs.UnreadRows.{IsLeftByRefusal, IsReadRefusal, ReadsRows}
use Rattle.live_archive.specs.Answers.{SaysBegun, SaysIngested, SaysInstalled}
use Rattle.live_archive.specs.Closings.{HasNotClosed}
use Rattle.live_archive.specs.Shelving.{MayClose}
use Rattle.live_archive.specs.Turns.{Turned}

-- ---- what a turn adds

-- its pass found a list that begins with the one seen before, and put these items behind it, at places of its own
pub record Adds {I : Type 0} (old new : SeenList I) (found put : List I) : Type 0 where
  pub begins : IsPrefix old.seen found
  pub seen : new.seen ≡ found ++ put
  pub length_found : new.found ≡ length found
  pub added : new.added ≡ old.added + length put
  pub places : new.places ≡ old.places ++ range_with_len (length found) (length put)

-- it found the history and the fill list of a store, and put these items behind them
pub record AddsTo {D T : Type 0} (before : StoreView D) (old new : PassView Item Fill T) (items : List Item)
    (noted : List Fill) : Type 0 where
  pub turns : new.turns ≡ old.turns + 1
  pub share : new.share ≡ old.share
  pub history : Adds old.history new.history before.history items
  pub fills : Adds old.fills new.fills before.fills noted

-- ---- faults

-- the fault of a write that was to add this
abbrev pub IsWriteNoted : Addition → List Fill → Type 0
IsWriteNoted addition noted = (count : ℕ) × (noted ≡ Fault count true addition ∷ [])

-- the fault of a read, where rows stand in runs
abbrev pub IsReadNoted : {D : Type 0} → StoreView D → List Fill → Type 0
IsReadNoted store noted = HasPages store × ((count : ℕ) × (noted ≡ Fault count false Nothing ∷ []))

-- where a write failed, its fault; else nothing
abbrev pub AreFaults : Addition → Refusal → List Fill → Type 0
AreFaults addition DiskFault noted = IsWriteNoted addition noted
AreFaults addition _ noted = noted ≡ []

-- where a read failed, its fault; else nothing
abbrev pub AreReadFaults : {D : Type 0} → StoreView D → Refusal → List Fill → Type 0
AreReadFaults store DiskFault noted = IsReadNoted store noted
AreReadFaults store _ noted = noted ≡ []

-- ---- what each call puts

-- Rows of a batch that are new to a store are some of the batch; where the store tells its rows, those whose keys its
-- history lacks.
pub record AreNewRows {D : Type 0} (device : Device D) (store : StoreView D) (rows fresh : List Row) : Type 0 where
  pub of_batch : AllByRecursion (Contains rows) fresh
  pub few : length fresh ≤ length rows
  pub told : TellsRows device store → fresh ≡ fresh_of store.history rows

-- where a batch was refused as the disk failed, the fault of its new rows, or that of a read; else nothing
abbrev pub AreBatchFaults : {D : Type 0} → Device D → StoreView D → List Row → Refusal → List Fill → Type 0
AreBatchFaults device store rows DiskFault noted =
    ((fresh : List Row) × AreNewRows device store rows fresh × IsWriteNoted (additions.Rows fresh) noted)
    ⊎ IsReadNoted store noted
AreBatchFaults device store rows _ noted = noted ≡ []

-- the rows that a batch put behind the history, and what it noted: its new rows, where it was taken
abbrev pub IngestPuts : {D : Type 0} → Device D → StoreView D → List Row → Result Ingested Refusal → List Row
    → List Fill → Type 0
IngestPuts device store rows (Ok ingest) put noted = AreNewRows device store rows put × (noted ≡ [])
IngestPuts device store rows (Err refusal) put noted = (put ≡ []) × AreBatchFaults device store rows refusal noted

-- the beginning of a flight, where one began
abbrev pub flight_begun : Option FillTask → List Fill
flight_begun None = []
flight_begun (Some task) = Begun task.interval task.base ∷ []

-- what a begin leaves behind the fill list
abbrev pub BeginNotes : {D : Type 0} → StoreView D → Result (Option FillTask) Refusal → List Fill → Type 0
BeginNotes store (Ok begun) noted = noted ≡ flight_begun begun
BeginNotes store (Err refusal) noted = AreReadFaults store refusal noted

-- the end of a flight, where there is one
abbrev pub flight_ended : Interval → List Fill → List Fill
flight_ended interval fills = if is_some (in_flight interval fills) then Freed interval ∷ [] else []

-- the fill that is there, or the end of its flight
abbrev pub fill_notes : List Fill → BuiltFill → Installed → List Fill
fill_notes fills done became.Done = Done done.interval done.base ∷ []
fill_notes fills done (became.Stale position) = flight_ended done.interval fills

-- what an install leaves behind the fill list; where it is refused, the end of the flight comes last
abbrev pub InstallNotes : List Fill → BuiltFill → Result Installed Refusal → List Fill → Type 0
InstallNotes fills done (Ok installed) noted = noted ≡ fill_notes fills done installed
InstallNotes fills done (Err refusal) noted =
    (faults : List Fill) × AreFaults (additions.Fill done.interval done.base) refusal faults
    × (noted ≡ faults ++ flight_ended done.interval fills)

-- ---- by call

module _ {D : Type 0} (T : Type 0) (device : Device D) where
  abbrev pub IngestsAdd : Type 0
  IngestsAdd = (first before after : StoreView D) (old new : PassView Item Fill T) (rows : List Row)
      (answer : Result Ingested Refusal) →
      Turned device first before after old new → SaysIngested device rows answer before after →
      (put : List Row) × (noted : List Fill) × IngestPuts device before rows answer put noted
      × AddsTo before old new (items_of put) noted

  abbrev pub BeginsAdd : Type 0
  BeginsAdd = (first before after : StoreView D) (old new : PassView Item Fill T)
      (answer : Result (Option FillTask) Refusal) →
      Turned device first before after old new → SaysBegun device answer before after →
      (noted : List Fill) × BeginNotes before answer noted × AddsTo before old new [] noted

  abbrev pub InstallsAdd : Type 0
  InstallsAdd = (first before after : StoreView D) (old new : PassView Item Fill T) (done : BuiltFill)
      (answer : Result Installed Refusal) →
      Turned device first before after old new → SaysInstalled device done answer before after →
      (noted : List Fill) × InstallNotes before.fills done answer noted × AddsTo before old new [] noted

  abbrev pub AbandonsAdd : Type 0
  AbandonsAdd = (first before after : StoreView D) (old new : PassView Item Fill T) (interval : Interval) →
      Turned device first before after old new → after ≡ record before { fills = freed interval before.fills } →
      AddsTo before old new [] (flight_ended interval before.fills)

  -- the last publication: the closing, where it hadn't come, or nothing
  abbrev pub ClosesAdd : Type 0
  ClosesAdd = (first before after : StoreView D) (old new : PassView Item Fill T) →
      Turned device first before after old new → MayClose first before after →
      (HasNotClosed first before.fills × AddsTo before old new [] (Closed ∷ [])) ⊎ AddsTo before old new [] []

  -- a call that leaves the store as it found it, or as rows that were read leave it
  abbrev pub AsksAddNothing : Type 0
  AsksAddNothing = (first before after : StoreView D) (old new : PassView Item Fill T) →
      Turned device first before after old new → ReadsRows device before after → AddsTo before old new [] []

  -- one that is refused since rows aren't read
  abbrev pub AsksAdd : Type 0
  AsksAdd = (first before after : StoreView D) (old new : PassView Item Fill T) (refusal : Refusal) →
      Turned device first before after old new → IsReadRefusal device before after refusal →
      IsLeftByRefusal device before after refusal →
      (noted : List Fill) × AreReadFaults before refusal noted × AddsTo before old new [] noted
