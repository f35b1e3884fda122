use Rattle.std.proofs.Common.{◌≡◌, ◌≤◌, ℕ, List, None, sym, ◌∙◌, ap, subst}
use Rattle.std.specs.Prelude.{IsTrue}
use Rattle.arch_disk.specs.Disk.{LeavesOnly, raised}
use Rattle.history_items.specs.declared.fills.Fill.{Fill}
use Rattle.history_items.specs.Fills.{base_in, pending_fault_of, reopened, unacknowledged_in}
use Rattle.history_items.specs.declared.items.Item.{Item}
use Rattle.history_items.proofs.FillLists.{base_in-reopened, pending_fault_of-reopened}
use Rattle.disk_journal.specs.State.{HasOnDisk as JournalHasOnDisk}
use Rattle.disk_journal.specs.State.{unhealed_fault, count_of}
use Rattle.disk_journal.proofs.Calls.{healed_on, heal_failed_on, heal_crash_on, heal_refusal_failed}
use Rattle.store_fills.specs.LastFills.{PlacedFills, fillings_in}
use Rattle.archive_store.specs.StoreView.{StoreView, IsNow, filled_of}
use Rattle.archive_images.specs.declared.head.Head.{Head}
use Rattle.archive_images.specs.Entries.{filled_archive}
use Rattle.archive_store.specs.Inside.{StoreInvariant, view_of}
use Rattle.archive_reading.proofs.Fillable.{holds_same}
use Rattle.archive_store.proofs.Kept.{healthy}
use Rattle.archive_store.proofs.Healing.{heal_moments, moments_for, kept_healed, kept_unhealed}
use Rattle.archive_store.proofs.KeptFills.{kept_now}
use Rattle.archive_store.proofs.store.Store.reopen.Goals as goal

-- what contracts see of a store of that many records
abbrev view_of_records : {D : Type 0} → D → D → Head → ℕ → List Item → List Fill → PlacedFills → ℕ → ℕ → StoreView D
view_of_records disk opened head exponent history fills filled sealed records =
    record { history = history; fills = fills; filled = filled; head = head; exponent = exponent; records = records; disk = disk; opened = opened; sealed = sealed }

pub invariant_of-self : goal.invariant_of-self
invariant_of-self g c =
    let device = g.D.Disk.device in
    let s = c.self.inside in
    let k = c.self.invariant.0 in
    let run = λ (transparent : IsTrue device.is_transparent) (bodies : List (List ℕ)) (pending : List ℕ) (keeps : JournalHasOnDisk device s.journal bodies pending s.disk).
    heal_crash_on device s.journal bodies pending s.disk transparent keeps c.heal.new.disk c.heal.ensures.crash in
    let keeps = λ (transparent : IsTrue device.is_transparent) (bodies : List (List ℕ)) (pending : List ℕ) (keeps : JournalHasOnDisk device s.journal bodies pending s.disk).
    healed_on device s.journal bodies pending s.disk transparent keeps c.heal.new.self c.heal.new.disk c.in-Ok.ensures.healed in
    let moments = heal_moments device s.disk c.heal.new.disk s.opened.value s.journal s.head s.history.exponent s.history.items s.tracker.fills s.sets.filled s.pending_fault k run c.heal.ensures.others.crash c.in-Ok.ensures.healed.no_call in
    let done = kept_healed device s.disk c.heal.new.disk s.opened.value s.journal c.heal.new.self s.head s.history.exponent s.history.items s.tracker.fills s.sets.filled s.pending_fault k moments keeps c.heal.ensures.others.crash c.heal.ensures.file (ap unhealed_fault c.in-Ok.ensures.healed.journal) c.heal.ensures.counts.faults c.heal.ensures.counts.writes in
    let fills = c.clear_failed_writes.ensures.fills in
    let marks = c.clear_failed_writes.ensures.marks s.history.exponent s.history.items c.self.invariant.3 in (
      subst (λ (f : List Fill). StoreInvariant device c.heal.new.disk s.opened.value c.heal.new.self s.head s.history.exponent s.history.items f s.sets.filled None) (sym fills) done,
      c.self.invariant.1,
      c.self.invariant.2,
      marks,
      holds_same s.head s.history.exponent s.history.items s.tracker.fills c.clear_failed_writes.new.self.fills s.sets.filled c.self.invariant.4 (λ i. ap (base_in i) fills ∙ base_in-reopened i s.tracker.fills),
    )

pub invariant_of-self-in-Err : goal.invariant_of-self-in-Err
invariant_of-self-in-Err g c =
    let device = g.D.Disk.device in
    let s = c.self.inside in
    let k = c.self.invariant.0 in
    let run = λ (transparent : IsTrue device.is_transparent) (bodies : List (List ℕ)) (pending : List ℕ) (keeps : JournalHasOnDisk device s.journal bodies pending s.disk).
    heal_crash_on device s.journal bodies pending s.disk transparent keeps c.heal.new.disk c.heal.ensures.crash in
    let failed = (heal_refusal_failed device s.journal c.heal.new.self s.disk c.heal.new.disk c.in-Err.field-0 c.in-Err.ensures.refused).1 in
    let no_call = λ (none : unhealed_fault s.journal ≡ None). absurd (failed.unhealed none) in
    let keeps = λ (transparent : IsTrue device.is_transparent) (bodies : List (List ℕ)) (pending : List ℕ) (keeps : JournalHasOnDisk device s.journal bodies pending s.disk).
    heal_failed_on device s.journal bodies pending s.disk transparent keeps c.heal.new.self c.heal.new.disk failed in
    let moments = heal_moments device s.disk c.heal.new.disk s.opened.value s.journal s.head s.history.exponent s.history.items s.tracker.fills s.sets.filled s.pending_fault k run c.heal.ensures.others.crash no_call in
    (kept_unhealed device s.disk c.heal.new.disk s.opened.value s.journal c.heal.new.self s.head s.history.exponent s.history.items s.tracker.fills s.sets.filled s.pending_fault k moments keeps c.heal.ensures.others.crash c.heal.ensures.file (ap unhealed_fault failed.journal) c.heal.ensures.counts.faults c.heal.ensures.counts.writes, c.self.invariant.1, c.self.invariant.2, c.self.invariant.3, c.self.invariant.4)

pub returns-in-Ok-clause-reopened : goal.returns-in-Ok-clause-reopened
returns-in-Ok-clause-reopened g c =
    let device = g.D.Disk.device in
    let s = c.self.inside in
    let k = c.self.invariant.0 in
    let run = λ (transparent : IsTrue device.is_transparent) (bodies : List (List ℕ)) (pending : List ℕ) (keeps : JournalHasOnDisk device s.journal bodies pending s.disk).
    heal_crash_on device s.journal bodies pending s.disk transparent keeps c.heal.new.disk c.heal.ensures.crash in
    let keeps = λ (transparent : IsTrue device.is_transparent) (bodies : List (List ℕ)) (pending : List ℕ) (keeps : JournalHasOnDisk device s.journal bodies pending s.disk).
    healed_on device s.journal bodies pending s.disk transparent keeps c.heal.new.self c.heal.new.disk c.in-Ok.ensures.healed in
    let moments = heal_moments device s.disk c.heal.new.disk s.opened.value s.journal s.head s.history.exponent s.history.items s.tracker.fills s.sets.filled s.pending_fault k run c.heal.ensures.others.crash c.in-Ok.ensures.healed.no_call in
    let done = kept_healed device s.disk c.heal.new.disk s.opened.value s.journal c.heal.new.self s.head s.history.exponent s.history.items s.tracker.fills s.sets.filled s.pending_fault k moments keeps c.heal.ensures.others.crash c.heal.ensures.file (ap unhealed_fault c.in-Ok.ensures.healed.journal) c.heal.ensures.counts.faults c.heal.ensures.counts.writes in
    let fills = c.clear_failed_writes.ensures.fills in
    let cleared = fills ∙ ap (λ (x : StoreView g.row.D.Denot). reopened x.fills) c.self.view_is in
    record {
      store = ap (λ (l : List Fill). view_of c.heal.new.disk s.opened.value c.heal.new.self s.head s.history.exponent s.history.items l s.sets.filled) fills
          ∙ ap (view_of_records c.heal.new.disk s.opened.value s.head s.history.exponent s.history.items (reopened s.tracker.fills) s.sets.filled 0) (ap count_of c.in-Ok.ensures.healed.journal)
          ∙ ap (λ (x : StoreView g.row.D.Denot). view_of_records c.heal.new.disk x.opened x.head x.exponent x.history (reopened x.fills) x.filled x.sealed x.records) c.self.view_is;
      healed = ap pending_fault_of cleared ∙ pending_fault_of-reopened c.args.self.now.fills;
      images = λ transparent image left. kept_now device c.heal.new.disk s.opened.value c.heal.new.self s.head s.history.exponent s.history.items (reopened s.tracker.fills) s.sets.filled None done (pending_fault_of-reopened s.tracker.fills) transparent image left;
      no_call = λ none. c.in-Ok.ensures.healed.no_call (healthy (unhealed_fault s.journal) (pending_fault_of s.tracker.fills) k.journal_fault (ap (λ (x : StoreView g.row.D.Denot). pending_fault_of x.fills) c.self.view_is ∙ none)) ∙ ap (λ (x : StoreView g.row.D.Denot). x.disk) c.self.view_is;
      no_failed_write = c.in-Ok.ensures.healed.no_failed_write ∙ ap (λ (x : StoreView g.row.D.Denot). device.failed_writes x.disk) c.self.view_is;
      no_fault = c.in-Ok.ensures.told.done ∙ ap (λ (x : StoreView g.row.D.Denot). device.fault_count x.disk) c.self.view_is;
    }

pub returns-in-Err-clause-refused : goal.returns-in-Err-clause-refused
returns-in-Err-clause-refused g c =
    let device = g.D.Disk.device in
    let s = c.self.inside in
    let k = c.self.invariant.0 in
    let failed = (heal_refusal_failed device s.journal c.heal.new.self s.disk c.heal.new.disk c.in-Err.field-0 c.in-Err.ensures.refused).1 in
    record {
      unhealed = λ none. failed.unhealed (healthy (unhealed_fault s.journal) (pending_fault_of s.tracker.fills) k.journal_fault (ap (λ (x : StoreView g.row.D.Denot). pending_fault_of x.fills) c.self.view_is ∙ none));
      store = ap (view_of_records c.heal.new.disk s.opened.value s.head s.history.exponent s.history.items s.tracker.fills s.sets.filled 0) (ap count_of failed.journal)
          ∙ ap (λ (x : StoreView g.row.D.Denot). view_of_records c.heal.new.disk x.opened x.head x.exponent x.history x.fills x.filled x.sealed x.records) c.self.view_is;
      rose = subst (λ (x : StoreView g.row.D.Denot). raised (device.fault_count x.disk) ≤ device.fault_count c.heal.new.disk) c.self.view_is failed.rose;
      wrote = failed.wrote ∙ ap (λ (x : StoreView g.row.D.Denot). raised (device.failed_writes x.disk)) c.self.view_is;
    }

pub returns-in-Ok-clause-crash : goal.returns-in-Ok-clause-crash
returns-in-Ok-clause-crash g c =
    let device = g.D.Disk.device in
    let s = c.self.inside in
    let k = c.self.invariant.0 in
    let run = λ (transparent : IsTrue device.is_transparent) (bodies : List (List ℕ)) (pending : List ℕ) (keeps : JournalHasOnDisk device s.journal bodies pending s.disk).
    heal_crash_on device s.journal bodies pending s.disk transparent keeps c.heal.new.disk c.heal.ensures.crash in
    let moments = heal_moments device s.disk c.heal.new.disk s.opened.value s.journal s.head s.history.exponent s.history.items s.tracker.fills s.sets.filled s.pending_fault k run c.heal.ensures.others.crash c.in-Ok.ensures.healed.no_call in
    subst (λ (x : StoreView g.row.D.Denot). IsTrue device.is_transparent → LeavesOnly device x.disk c.heal.new.disk (IsNow (filled_of x) (unacknowledged_in x.fills))) c.self.view_is
    (λ transparent. moments_for device s.disk c.heal.new.disk (filled_archive s.head s.history.exponent s.history.items (fillings_in s.sets.filled)) (unacknowledged_in s.tracker.fills) (moments transparent))

pub returns-in-Err-clause-crash : goal.returns-in-Err-clause-crash
returns-in-Err-clause-crash g c =
    let device = g.D.Disk.device in
    let s = c.self.inside in
    let k = c.self.invariant.0 in
    let run = λ (transparent : IsTrue device.is_transparent) (bodies : List (List ℕ)) (pending : List ℕ) (keeps : JournalHasOnDisk device s.journal bodies pending s.disk).
    heal_crash_on device s.journal bodies pending s.disk transparent keeps c.heal.new.disk c.heal.ensures.crash in
    let failed = (heal_refusal_failed device s.journal c.heal.new.self s.disk c.heal.new.disk c.in-Err.field-0 c.in-Err.ensures.refused).1 in
    let no_call = λ (none : unhealed_fault s.journal ≡ None). absurd (failed.unhealed none) in
    let moments = heal_moments device s.disk c.heal.new.disk s.opened.value s.journal s.head s.history.exponent s.history.items s.tracker.fills s.sets.filled s.pending_fault k run c.heal.ensures.others.crash no_call in
    subst (λ (x : StoreView g.row.D.Denot). IsTrue device.is_transparent → LeavesOnly device x.disk c.heal.new.disk (IsNow (filled_of x) (unacknowledged_in x.fills))) c.self.view_is
    (λ transparent. moments_for device s.disk c.heal.new.disk (filled_archive s.head s.history.exponent s.history.items (fillings_in s.sets.filled)) (unacknowledged_in s.tracker.fills) (moments transparent))
