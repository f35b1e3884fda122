-- What follows of the run of a link.
use Rattle.std.specs.Prelude.{◌≡◌, ◌⊎◌, ℕ, List, [], ◌∷◌, ◌++◌, length, slice_get, take, true, false, Some, Result}
use mathlib.Core.List.{IsPrefix}
use Rattle.arch_disk.specs.Disk.{Device}
use Rattle.refusals.specs.declared.refusal.Refusal.{Refusal}
use Rattle.refusals.specs.declared.refusal.Refusal.TheVariants.{DiskFault}
use Rattle.arch_types.specs.declared.row.Row.{Row}
use Rattle.arch_types.specs.History.{IsHistory}
use Rattle.history_items.specs.declared.fills.Addition.{Addition}
use Rattle.history_items.specs.declared.fills.Addition.TheVariants.{Nothing, Rows}
use Rattle.history_items.specs.declared.fills.Fill.{Fill}
use Rattle.history_items.specs.declared.fills.Fill.TheVariants.{Fault}
use Rattle.history_items.specs.declared.items.Item.{Item}
use Rattle.history_items.specs.Items.{after_rows, rows_in}
use Rattle.store_fills.specs.Faults.{faults_in}
use Rattle.shared_history.specs.Turns.{ArePlaced}
use Rattle.turn_cell.specs.Pass.{PassView}
use Rattle.archive_store.specs.Pages.{HasPages, TellsRows}
use Rattle.archive_store.specs.StoreView.{StoreView}
use Rattle.live_archive.specs.GoesOn.{GoesOn, OneFailed}
use Rattle.load_session.specs.declared.session.DumpSummary.{DumpSummary}
use Rattle.load_session.specs.Receiving.{Receiving, rows_received}
use Rattle.load_session.specs.Session.{next_fresh_rows}
use Rattle.load_jobs.specs.Links.{HasAdded, IsDumpSent, work_of}

-- A link alone put rows behind a first history: it found that one, and each item of a later one that stands behind it
-- is at a place of the link's.
pub record IsOneLink {D T : Type 0} (first : StoreView D) (link : ℕ) (put : List Row) (old new : PassView Item Fill T)
    (later : List Item) : Type 0 where
  pub added : HasAdded link put old new
  pub found : old.history.seen ≡ first.history
  pub begins : IsPrefix new.history.seen later
  pub placed : ArePlaced (length first.history) later (work_of link put new ∷ [])
  pub is_history : IsHistory (rows_in later)

module _ {D : Type 0} (T : Type 0) (device : Device D) where
  -- Where the store tells its rows, the later history is then the first one followed by the rows of the packets that
  -- were sent, and the link has seen it whole.
  abbrev pub OneLinkReaches : Type 0
  OneLinkReaches = (first : StoreView D) (dump : List ℕ) (r : Receiving) (put : List Row)
      (old new : PassView Item Fill T) (answer : Result DumpSummary Refusal) (later : List Item) →
      (sent : IsDumpSent device first dump r put old new answer) → IsOneLink first r.link put old new later →
      TellsRows device first →
      (later ≡ sent.came_to.reached)
      × (later ≡ after_rows first.history (rows_received r (take sent.came_to.place sent.came_to.packets)))

  -- Where a later fill list has one fault, and the link ended by the disk, that is the fault of its batch in hand, or,
  -- where rows stand in runs, that of a read.
  abbrev pub FaultIsOfTheBatch : Type 0
  FaultIsOfTheBatch = (first : StoreView D) (dump : List ℕ) (r : Receiving) (put : List Row)
      (old new : PassView Item Fill T) (answer : Result DumpSummary Refusal) (later : List Fill) (fault : Fill) →
      (sent : IsDumpSent device first dump r put old new answer) → sent.came_to.refusal ≡ Some DiskFault →
      IsPrefix new.fills.seen later → faults_in later ≡ fault ∷ [] → TellsRows device first →
      ((count : ℕ) × (faults_in later ≡ Fault count true (Rows (next_fresh_rows r sent.came_to)) ∷ []))
      ⊎ (HasPages first × ((count : ℕ) × (faults_in later ≡ Fault count false Nothing ∷ [])))

module _ {D : Type 0} (device : Device D) where
  -- A fault by a failed write that came during turns is the only one: beside it stand faults of reads alone.
  abbrev pub AFaultIsTheOne : Type 0
  AFaultIsTheOne = (first closed : StoreView D) (place count : ℕ) (addition : Addition) →
      faults_in first.fills ≡ [] → GoesOn device first closed →
      slice_get closed.fills place ≡ Some (Fault count true addition) →
      (one : OneFailed device first closed) × (one.addition ≡ addition)
      × (faults_in closed.fills ≡ one.before ++ Fault count true addition ∷ one.behind)
