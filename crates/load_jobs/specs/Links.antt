-- What the turns of a link put, and what became of its dump.
use Rattle.std.specs.Prelude.{◌≡◌, ◌⊎◌, ℕ, ◌+◌, ◌/◌, ◌≤◌, List, [], ◌∷◌, ◌++◌, length, slice_get, take, true, IfOk, Option, Some, None, Result}
use Rattle.std.specs.Result.{result_err}
use mathlib.Core.List.{IsPrefix}
use Rattle.arch_disk.specs.Disk.{Device}
use Rattle.refusals.specs.declared.refusal.Refusal.{Refusal}
use Rattle.refusals.specs.declared.refusal.Refusal.TheVariants.{Damaged, DiskFault, Limit, NeedsReopen, OutOfMemory}
use Rattle.refusals.specs.declared.refusal.Which.TheVariants.{Links}
use Rattle.refusals.specs.Limits.{limit_of}
use Rattle.arch_types.specs.declared.row.Row.{Row}
use Rattle.arch_types.specs.Dump.{IsDump}
use Rattle.field_codec.specs.declared.entry.Entry.TheVariants as entries
use Rattle.field_codec.specs.Entries.{IsArchiveEntry}
use Rattle.history_items.specs.declared.fills.Addition.TheVariants.{Rows}
use Rattle.history_items.specs.declared.fills.Fill.{Fill}
use Rattle.history_items.specs.declared.fills.Fill.TheVariants.{Fault}
use Rattle.history_items.specs.declared.items.Item.{Item}
use Rattle.history_items.specs.Fills.{pending_fault_of}
use Rattle.history_items.specs.Items.{after_rows, databases_in}
use Rattle.text_forms.specs.ClockTime.{IsClockTime}
use Rattle.shared_history.specs.Sent.{HasSent}
use Rattle.shared_history.specs.Turns.{HasPut, LinkWork}
use Rattle.turn_cell.specs.Pass.{PassView}
use Rattle.archive_store.specs.Limits.{IsLimit}
use Rattle.archive_store.specs.Pages.{HasPages, TellsRows}
use Rattle.archive_store.specs.StoreView.{StoreView}
use Rattle.live_archive.specs.GoesOn.{dones}
use Rattle.live_archive.specs.Reads.{IsReadFaultAt}
use Rattle.load_session.specs.declared.session.DumpSummary.{DumpSummary}
use Rattle.load_session.specs.Receiving.{IsRouteOver, Receiving, rows_received}
use Rattle.load_session.specs.Session.{IsBetweenBatches, IsSummary, SessionResult, next_fresh_rows, next_rows}

-- ---- before it begins

-- Packets are received so by a link of this archive, whose pass has put nothing yet; nothing has added a database to
-- the history.
pub record CanSend {D T : Type 0} (first : StoreView D) (r : Receiving) (pass : PassView Item Fill T) : Type 0 where
  pub fresh : pass.history.places ≡ []
  pub link : (1 ≤ r.link) × (r.link ≤ limit_of Links)
  pub moment : IsClockTime r.moment
  pub head : IsArchiveEntry (entries.Head r.head.tables r.head.mdb)
  pub of_archive : r.head ≡ first.head
  pub route : IsRouteOver r.head r.route
  pub alone : databases_in pass.history.seen ≡ []

-- ---- what its turns put

-- the rows that the turns of a link's pass put, with the pass's places
abbrev pub work_of : {T : Type 0} → ℕ → List Row → PassView Item Fill T → LinkWork
work_of link put pass = record { link = link; places = pass.history.places; rows = put }

-- A link's turns put these rows into the history, at the places of its pass; the pass has seen more of both lists,
-- and has its share.
pub record HasAdded {T : Type 0} (link : ℕ) (put : List Row) (old new : PassView Item Fill T) : Type 0 where
  pub has_put : HasPut (length old.history.seen) new.history.seen (work_of link put new)
  pub added : new.history.added ≡ old.history.added + length put
  pub begins : IsPrefix old.history.seen new.history.seen × IsPrefix old.fills.seen new.fills.seen
  pub share : new.share ≡ old.share

module _ {D : Type 0} (device : Device D) (first : StoreView D) where
  -- a fault stands at the place: a write failed at new rows of the batch in hand, which are these where the store
  -- tells its rows
  abbrev pub HoldsBatch : Receiving → SessionResult → List Fill → ℕ → Type 0
  HoldsBatch r s fills place =
      (count : ℕ) × (rows : List Row) × (slice_get fills place ≡ Some (Fault count true (Rows rows)))
      × (TellsRows device first → rows ≡ next_fresh_rows r s)

  -- a fault stands there by which the disk failed at the batch in hand, or, where rows stand in runs, at a read for it
  abbrev pub FailedAt : Receiving → SessionResult → List Fill → ℕ → Type 0
  FailedAt r s fills place = HoldsBatch r s fills place ⊎ (HasPages first × IsReadFaultAt fills place)

  -- They noted nothing in the fill list; but where the disk failed, one fault.
  abbrev pub HasNoted : {T : Type 0} → Receiving → SessionResult → PassView Item Fill T → PassView Item Fill T
      → Option Refusal → Type 0
  HasNoted r s old new (Some DiskFault) =
      (place : ℕ) × (new.fills.places ≡ old.fills.places ++ place ∷ []) × FailedAt r s new.fills.seen place
  HasNoted r s old new other = new.fills.places ≡ old.fills.places

-- how many batches of 64 so many packets are
abbrev pub batches_of : ℕ → ℕ
batches_of packets = (packets + 63) / 64

-- It took a turn for each batch, and where it was refused one more at most.
abbrev pub HasTurned : {T : Type 0} → ℕ → PassView Item Fill T → PassView Item Fill T → Option Refusal → Type 0
HasTurned place old new None = new.turns ≤ old.turns + batches_of place
HasTurned place old new (Some refusal) = new.turns ≤ old.turns + batches_of place + 1

-- ---- what became of its dump

-- the journal has so many records by what a pass has seen: each one more has a new item or a fill
abbrev pub IsRecordedIn : {D T : Type 0} → StoreView D → PassView Item Fill T → ℕ → Type 0
IsRecordedIn first pass records =
    records + length first.history + dones first.fills
    ≤ first.records + length pass.history.seen + dones pass.fills.seen

-- Why the sending ended: all packets were sent; or the batch in hand passes a limit, a failed write is pending, the
-- disk failed, a page broke its format, which never comes where the store tells its rows, or there was no memory.
-- Where it doesn't, nothing is said of a limit.
abbrev pub IsSendingEnd : {D T : Type 0} → Device D → StoreView D → Receiving → SessionResult → PassView Item Fill T
    → Option Refusal → Type 0
IsSendingEnd device first r s pass None = s.place ≡ length s.packets
IsSendingEnd device first r s pass (Some (Limit which number)) =
    TellsRows device first → (number ≡ limit_of which)
    × ((records : ℕ) × IsRecordedIn first pass records
    × IsLimit first.exponent which records (after_rows s.reached (next_rows r s)))
IsSendingEnd device first r s pass (Some (NeedsReopen faults)) = pending_fault_of pass.fills.seen ≡ Some faults
IsSendingEnd device first r s pass (Some DiskFault) = Unit {0}
IsSendingEnd device first r s pass (Some (Damaged file at)) = TellsRows device first → ⊥
IsSendingEnd device first r s pass (Some OutOfMemory) = Unit {0}
IsSendingEnd device first r s pass (Some other) = ⊥

-- The packets of a dump were sent, batch by batch, up to where the sending ended, and it was answered so. Where the
-- store tells its rows, what was put is some of the first of each table and key of the packets' rows, and the table
-- and key of each are in the history; there are never more.
pub record IsDumpSent {D T : Type 0} (device : Device D) (first : StoreView D) (dump : List ℕ) (r : Receiving)
    (put : List Row) (old new : PassView Item Fill T) (answer : Result DumpSummary Refusal) : Type 0 where
  pub came_to : SessionResult
  pub parts : IsDump dump came_to.packets came_to.rest
  pub within : came_to.place ≤ length came_to.packets
  pub between : IsBetweenBatches came_to.place came_to.packets
  pub reached : came_to.reached ≡ new.history.seen
  pub few : length put ≤ length (rows_received r (take came_to.place came_to.packets))
  pub sent : TellsRows device first →
      HasSent (rows_received r (take came_to.place came_to.packets)) new.history.seen put
  pub noted : HasNoted device first r came_to old new came_to.refusal
  pub turned : HasTurned came_to.place old new came_to.refusal
  pub cause : IsSendingEnd device first r came_to new came_to.refusal
  pub answer_is : came_to.refusal ≡ result_err answer
  pub summary : IfOk answer (IsSummary dump r came_to)
