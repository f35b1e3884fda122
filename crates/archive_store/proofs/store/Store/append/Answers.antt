use Rattle.std.proofs.Common.{◌≡◌, ◌⊎◌, ◌++◌, ◌<◌, ◌-◌, ◌^◌, [], ◌∷◌, ℕ, List, length, true, Some, None, refl, sym, ◌∙◌, ap, subst, arith, length-append}
use Rattle.std.specs.Prelude.{IsTrue}
use Rattle.std.specs.List.{AllByRecursion}
use Rattle.arch_disk.specs.Disk.{LeavesOnly}
use Rattle.arch_types.specs.declared.row.Row.{Row}
use Rattle.history_items.specs.declared.fills.Addition.TheVariants.{Rows}
use Rattle.history_items.specs.declared.fills.Fill.{Fill}
use Rattle.history_items.specs.Fills.{base_in, pending_fault_of}
use Rattle.history_items.proofs.FillLists.{base_after_item}
use Rattle.history_items.specs.declared.items.Item.{Item}
use Rattle.history_items.specs.Items.{after_rows, items_of, rows_in}
use Rattle.history_items.specs.Databases.{database_in}
use Rattle.history_items.proofs.Databases.{rows_keep_database}
use Rattle.disk_journal.specs.Calls.{IsAppendFailed}
use Rattle.disk_journal.specs.Format.{IsBeforeOrAfter}
use Rattle.disk_journal.specs.State.{HasOnDisk as JournalHasOnDisk}
use Rattle.disk_journal.specs.State.{unhealed_fault, faults_of, file_of}
use Rattle.disk_journal.proofs.Calls.{appended_on, append_failed_on, append_crash_on}
use Rattle.field_codec.specs.declared.entry.Entry.TheVariants as entries
use Rattle.field_codec.specs.Spelling.{entry_octets}
use Rattle.fill_tracker.specs.FillTracker.{AreMarksOf, FillTrackerView}
use Rattle.store_fills.specs.LastFills.{fillings_in}
use Rattle.archive_images.specs.Entries.{archive, filled_archive, AreAdmitted}
use Rattle.archive_reading.specs.PartialArchive.{HoldsFills}
use Rattle.archive_store.specs.Inside.{StoreInvariant, view_of}
use Rattle.archive_images.specs.Unacknowledged.{with_rows}
use Rattle.archive_store.specs.StoreView.{OnlyAppends, AddsFault, StoreView, filled_of}
use Rattle.archive_images.specs.Stands.{StandsFilled}
use Rattle.archive_store.proofs.Batching.{placed_tables}
use Rattle.archive_reading.proofs.Fillable.{holds_later, holds_same}
use Rattle.archive_store.proofs.Going.{goes_fill, goes_same}
use Rattle.archive_images.proofs.RowsAlone.{more_alone}
use Rattle.archive_store.proofs.Kept.{LeavesRows, healthy, kept_same, kept_ok, kept_err, moments_of, fault}
use Rattle.archive_store.proofs.KeptFills.{unharmed}
use Rattle.archive_store.proofs.PlainLog.{either_filled}
use Rattle.archive_store.proofs.store.Store.append.Given.{Over}
use Rattle.archive_store.proofs.store.Store.append.Goals.{After-append_entry, In-Ok, In-Err}
use Rattle.archive_store.proofs.store.Store.append.Goals as goal

module _ (g : Over) (c : After-append_entry g) where
  healed : pending_fault_of c.self.inside.tracker.fills ≡ None
  healed = subst (λ (x : StoreView g.row.D.Denot). pending_fault_of x.fills ≡ None) (sym c.self.view_is) c.requires.healed

  -- the rows may be added to the history as it was
  admitted : AreAdmitted (archive c.self.inside.head c.self.inside.history.exponent c.self.inside.history.items) c.args.fresh
  admitted = subst (λ (x : StoreView g.row.D.Denot). AreAdmitted (archive x.head x.exponent x.history) c.args.fresh) (sym c.self.view_is) c.requires.admitted

  frame : c.in-Ok.frame ≡ entry_octets (entries.Rows c.args.fresh)
  frame = c.in-Ok.ensures.frame ∙ ap (λ (l : List Row). entry_octets (entries.Rows l)) c.as_slice.ensures

  -- preparing left the store as it was
  kept : StoreInvariant g.D.Disk.device c.self.inside.disk c.self.inside.opened.value c.prepare-prepared.new.journal c.self.inside.head c.self.inside.history.exponent c.self.inside.history.items c.self.inside.tracker.fills c.self.inside.sets.filled c.self.inside.pending_fault
  kept =
      let s = c.self.inside in
      kept_same g.D.Disk.device s.disk s.opened.value s.journal c.prepare-prepared.new.journal s.head s.history.exponent s.history.items s.tracker.fills s.sets.filled s.pending_fault c.self.invariant.0 c.prepare-prepared.ensures.journal

  -- a crash leaves the archive as it was, or with the rows
  moments : IsTrue g.D.Disk.device.is_transparent → LeavesRows g.D.Disk.device c.self.inside.disk c.append_entry.new.disk c.self.inside.head c.self.inside.history.exponent c.self.inside.history.items (fillings_in c.self.inside.sets.filled) c.args.fresh
  moments =
      let device = g.D.Disk.device in
      let s = c.self.inside in
      let mid = c.prepare-prepared.new.journal in
      let run = λ (transparent : IsTrue device.is_transparent) (bodies : List (List ℕ)) (pending : List ℕ) (keeps : JournalHasOnDisk device mid bodies pending s.disk) (no_pending_fault : unhealed_fault mid ≡ None).
      subst (λ (b : List ℕ). LeavesOnly device s.disk c.append_entry.new.disk (λ i. IsBeforeOrAfter bodies b (i (file_of mid)))) frame (append_crash_on device mid bodies pending s.disk transparent keeps c.append_entry.new.disk c.in-Ok.frame (c.append_entry.ensures.crash)) in
      moments_of device s.disk c.append_entry.new.disk s.opened.value s.journal mid s.head s.history.exponent s.history.items c.args.fresh s.tracker.fills s.sets.filled s.pending_fault c.self.invariant.0 admitted healed c.prepare-prepared.ensures.journal run c.append_entry.ensures.others.crash

  crash : IsTrue g.D.Disk.device.is_transparent → LeavesOnly g.D.Disk.device c.args.self.now.disk c.append_entry.new.disk (λ i. StandsFilled i (filled_of c.args.self.now) ⊎ StandsFilled i (with_rows (filled_of c.args.self.now) (items_of c.args.fresh)))
  crash =
      let device = g.D.Disk.device in
      let s = c.self.inside in
      let fillings = fillings_in s.sets.filled in
      subst (λ (x : StoreView g.row.D.Denot). IsTrue device.is_transparent → LeavesOnly device x.disk c.append_entry.new.disk (λ i. StandsFilled i (filled_of x) ⊎ StandsFilled i (with_rows (filled_of x) (items_of c.args.fresh)))) c.self.view_is
      (λ transparent. either_filled device s.disk c.append_entry.new.disk (filled_archive s.head s.history.exponent s.history.items fillings) (filled_archive s.head s.history.exponent (s.history.items ++ items_of c.args.fresh) fillings) (moments transparent))

pub invariant_of-self-in-Ok-append_entry : goal.invariant_of-self-in-Ok-append_entry
invariant_of-self-in-Ok-append_entry g c =
    let at = (goal.at.invariant_of-self-in-Ok-append_entry g c).After-append_entry in
    let device = g.D.Disk.device in
    let s = c.self.inside in
    let k = c.self.invariant.0 in
    let fresh : List Row = c.args.fresh in
    let mid = c.prepare-prepared.new.journal in
    let appended = c.in-Ok-append_entry.ensures.appended.1 in
    let back : c.in-Ok-append_entry.fresh ≡ fresh = c.in-Ok-append_entry.ensures.back in
    let keeps = λ (transparent : IsTrue device.is_transparent) (bodies : List (List ℕ)) (pending : List ℕ) (keeps : JournalHasOnDisk device mid bodies pending s.disk).
    subst (λ (b : List ℕ). JournalHasOnDisk device c.append_entry.new.journal (bodies ++ b ∷ []) pending c.append_entry.new.disk) (frame g at) (appended_on device mid bodies pending s.disk transparent keeps c.append_entry.new.journal c.append_entry.new.disk c.in-Ok.frame _ appended) in
    let done = kept_ok device s.disk c.append_entry.new.disk s.opened.value mid c.append_entry.new.journal s.head s.history.exponent s.history.items fresh s.tracker.fills s.sets.filled s.pending_fault (kept g at) (admitted g at) (healed g at) c.append_entry.ensures.file appended.no_pending_fault keeps (moments g at) c.append_entry.ensures.others.crash c.append_entry.ensures.counts.faults appended.no_failed_write in
    let prepared = c.prepare-prepared.ensures.history in
    let new : after_rows c.prepare-prepared.new.history.items fresh ≡ c.prepare-prepared.new.history.items ++ items_of fresh =
    subst (λ (l : List Item). after_rows l fresh ≡ l ++ items_of fresh) (sym prepared.0) (admitted g at).fresh in
    let given = subst (λ (rows : List Row). after_rows c.prepare-prepared.new.history.items rows ≡ c.prepare-prepared.new.history.items ++ items_of rows) (sym back) new in
    let grown = c.add_all.ensures.items (c.add_all.ensures.all.1 given) in
    let whole : List Item = s.history.items ++ items_of fresh in
    let items : c.add_all.new.self.items ≡ whole = grown ∙ ap (λ (l : List Item). l ++ items_of c.in-Ok-append_entry.fresh) prepared.0 ∙ ap (λ (rows : List Row). s.history.items ++ items_of rows) back in
    let format = c.exponent.ensures ∙ prepared.2 in
    let stays = c.add_all.ensures.exponent ∙ prepared.2 in
    let tracker = c.append_entry.new.tracker in
    let kept_marks = c.append_entry.ensures.marks s.history.exponent s.history.items (c.prepare-prepared.ensures.marks s.history.exponent s.history.items c.self.invariant.3) in
    let before = subst (λ (e : ℕ). AreMarksOf e s.history.items tracker.fills tracker.marks) (sym format) kept_marks in
    let marks = subst (λ (e : ℕ). AreMarksOf e (s.history.items ++ items_of c.as_slice-in-Ok-append_entry.result.now) c.touch.new.self.fills c.touch.new.self.marks) format (c.touch.ensures.marks s.history.items (omega (arith, c.len-first.ensures.len, ap length prepared.0)) before) in
    let touched = subst (λ (l : List Row). AreMarksOf s.history.exponent (s.history.items ++ items_of l) c.touch.new.self.fills c.touch.new.self.marks) (c.as_slice-in-Ok-append_entry.ensures ∙ back) marks in
    let fills = c.touch.ensures.fills ∙ ap (λ (t : FillTrackerView). t.fills) c.in-Ok-append_entry.ensures.same ∙ c.prepare-prepared.ensures.fills in (
      subst (λ (e : ℕ). StoreInvariant device c.append_entry.new.disk s.opened.value c.append_entry.new.journal s.head e c.add_all.new.self.items c.touch.new.self.fills s.sets.filled s.pending_fault) (sym stays)
          (subst (λ (r : List Item). StoreInvariant device c.append_entry.new.disk s.opened.value c.append_entry.new.journal s.head s.history.exponent r c.touch.new.self.fills s.sets.filled s.pending_fault) (sym items)
          (subst (λ (f : List Fill). StoreInvariant device c.append_entry.new.disk s.opened.value c.append_entry.new.journal s.head s.history.exponent whole f s.sets.filled s.pending_fault) (sym fills) done)),
      c.add_all.ensures.tables ∙ prepared.1 ∙ c.self.invariant.1,
      c.self.invariant.2 ∙ sym (rows_keep_database s.head.mdb s.history.items fresh) ∙ ap (database_in s.head.mdb) (sym items),
      subst (λ (e : ℕ). AreMarksOf e c.add_all.new.self.items c.touch.new.self.fills c.touch.new.self.marks) (sym stays)
          (subst (λ (r : List Item). AreMarksOf s.history.exponent r c.touch.new.self.fills c.touch.new.self.marks) (sym items) touched),
      subst (λ (e : ℕ). HoldsFills s.head e c.add_all.new.self.items c.touch.new.self.fills s.sets.filled) (sym stays)
          (subst (λ (r : List Item). HoldsFills s.head s.history.exponent r c.touch.new.self.fills s.sets.filled) (sym items)
          (subst (λ (f : List Fill). HoldsFills s.head s.history.exponent whole f s.sets.filled) (sym fills)
          (holds_later s.head s.history.exponent s.history.items whole s.tracker.fills s.sets.filled k.alone (more_alone s.history.items fresh k.alone) c.self.invariant.4))),
    )

pub returns-in-Ok-append_entry-clause-crash : goal.returns-in-Ok-append_entry-clause-crash
returns-in-Ok-append_entry-clause-crash g c = crash g (goal.at.returns-in-Ok-append_entry-clause-crash g c).After-append_entry

-- the append failed at a write, and the fault that is noted holds the rows
module _ (g : Over) (c : In-Err g) where
  write_failed : IsAppendFailed g.D.Disk.device c.prepare-prepared.new.journal c.append_entry.new.journal c.self.inside.disk c.append_entry.new.disk c.in-Ok.frame
  write_failed = c.in-Err.ensures.failed.failed

  fault_noted : c.append_entry.new.tracker.fills ≡ c.self.inside.tracker.fills ++ fault c.in-Err.count c.args.fresh ∷ []
  fault_noted = c.in-Err.ensures.failed.fault ∙ ap (λ (l : List Fill). l ++ fault c.in-Err.count c.args.fresh ∷ []) c.prepare-prepared.ensures.fills

pub returns-clause-refused : goal.returns-clause-refused
returns-clause-refused g c =
    let at = (goal.at.returns-clause-refused g c).In-Err in
    let s = c.self.inside in
    let prepared = c.prepare-prepared in
    let failed = write_failed g at in
    let new : StoreView g.row.D.Denot = view_of c.append_entry.new.disk s.opened.value c.append_entry.new.journal s.head prepared.new.history.exponent prepared.new.history.items c.append_entry.new.tracker.fills s.sets.filled in
    subst (λ (x : StoreView g.row.D.Denot). AddsFault g.D.Disk.device x new true (Rows c.args.fresh)) c.self.view_is (record {
      history = prepared.ensures.history.0;
      filled = refl;
      records = failed.count ∙ ap length prepared.ensures.journal.extents;
      count = c.in-Err.count;
      count_is = c.in-Err.ensures.failed.count_is;
      fills = fault_noted g at;
      rose = failed.rose;
      writes = failed.wrote;
    })

pub returns-clause-grows : goal.returns-clause-grows
returns-clause-grows g c =
    let at = (goal.at.returns-clause-grows g c).In-Err in
    let s = c.self.inside in
    let prepared = c.prepare-prepared in
    let new : StoreView g.row.D.Denot = view_of c.append_entry.new.disk s.opened.value c.append_entry.new.journal s.head prepared.new.history.exponent prepared.new.history.items c.append_entry.new.tracker.fills s.sets.filled in
    subst (λ (x : StoreView g.row.D.Denot). OnlyAppends x new) c.self.view_is
    (goes_fill (view_of s.disk s.opened.value s.journal s.head s.history.exponent s.history.items s.tracker.fills s.sets.filled) new (fault c.in-Err.count c.args.fresh) prepared.ensures.history.0 (fault_noted g at) refl prepared.ensures.history.2 refl refl)

pub returns-in_default-clause-grows : goal.returns-in_default-clause-grows
returns-in_default-clause-grows g c =
    let s = c.self.inside in
    let prepared = c.prepare-prepared in
    let new : StoreView g.row.D.Denot = view_of s.disk s.opened.value prepared.new.journal s.head prepared.new.history.exponent prepared.new.history.items prepared.new.tracker.fills s.sets.filled in
    subst (λ (x : StoreView g.row.D.Denot). OnlyAppends x new) c.self.view_is
    (goes_same (view_of s.disk s.opened.value s.journal s.head s.history.exponent s.history.items s.tracker.fills s.sets.filled) new prepared.ensures.history.0 prepared.ensures.fills refl prepared.ensures.history.2 refl refl)

pub invariant_of-self-in-Err : goal.invariant_of-self-in-Err
invariant_of-self-in-Err g c =
    let at = goal.at.invariant_of-self-in-Err g c in
    let device = g.D.Disk.device in
    let s = c.self.inside in
    let fresh : List Row = c.args.fresh in
    let mid = c.prepare-prepared.new.journal in
    let failed = write_failed g at.In-Err in
    let keeps = λ (transparent : IsTrue device.is_transparent) (bodies : List (List ℕ)) (pending : List ℕ) (keeps : JournalHasOnDisk device mid bodies pending s.disk).
    subst (λ (b : List ℕ). JournalHasOnDisk device c.append_entry.new.journal bodies b c.append_entry.new.disk) (frame g at.After-append_entry) (append_failed_on device mid bodies pending s.disk transparent keeps c.append_entry.new.journal c.append_entry.new.disk c.in-Ok.frame failed) in
    let done = kept_err device s.disk c.append_entry.new.disk s.opened.value mid c.append_entry.new.journal s.head s.history.exponent s.history.items fresh s.tracker.fills s.sets.filled s.pending_fault c.in-Err.count (kept g at.After-append_entry) (admitted g at.After-append_entry) (healed g at.After-append_entry) c.append_entry.ensures.file failed.pending_fault c.in-Err.ensures.failed.count_is keeps (moments g at.After-append_entry) c.append_entry.ensures.others.crash failed.rose failed.wrote in
    let fills = fault_noted g at.In-Err in
    let marks = c.append_entry.ensures.marks s.history.exponent s.history.items (c.prepare-prepared.ensures.marks s.history.exponent s.history.items c.self.invariant.3) in (
      subst (λ (e : ℕ). StoreInvariant device c.append_entry.new.disk s.opened.value c.append_entry.new.journal s.head e c.prepare-prepared.new.history.items c.append_entry.new.tracker.fills s.sets.filled (Some c.in-Err.count)) (sym c.prepare-prepared.ensures.history.2)
          (subst (λ (r : List Item). StoreInvariant device c.append_entry.new.disk s.opened.value c.append_entry.new.journal s.head s.history.exponent r c.append_entry.new.tracker.fills s.sets.filled (Some c.in-Err.count)) (sym c.prepare-prepared.ensures.history.0)
          (subst (λ (f : List Fill). StoreInvariant device c.append_entry.new.disk s.opened.value c.append_entry.new.journal s.head s.history.exponent s.history.items f s.sets.filled (Some c.in-Err.count)) (sym fills) done)),
      c.prepare-prepared.ensures.history.1 ∙ c.self.invariant.1,
      c.self.invariant.2 ∙ ap (database_in s.head.mdb) (sym c.prepare-prepared.ensures.history.0),
      subst (λ (e : ℕ). AreMarksOf e c.prepare-prepared.new.history.items c.append_entry.new.tracker.fills c.append_entry.new.tracker.marks) (sym c.prepare-prepared.ensures.history.2)
          (subst (λ (r : List Item). AreMarksOf s.history.exponent r c.append_entry.new.tracker.fills c.append_entry.new.tracker.marks) (sym c.prepare-prepared.ensures.history.0) marks),
      subst (λ (e : ℕ). HoldsFills s.head e c.prepare-prepared.new.history.items c.append_entry.new.tracker.fills s.sets.filled) (sym c.prepare-prepared.ensures.history.2)
          (subst (λ (r : List Item). HoldsFills s.head s.history.exponent r c.append_entry.new.tracker.fills s.sets.filled) (sym c.prepare-prepared.ensures.history.0)
          (holds_same s.head s.history.exponent s.history.items s.tracker.fills c.append_entry.new.tracker.fills s.sets.filled c.self.invariant.4 (λ i. ap (base_in i) fills ∙ base_after_item i s.tracker.fills (fault c.in-Err.count fresh)))),
    )

pub invariant_of-self : goal.invariant_of-self
invariant_of-self g c =
    let device = g.D.Disk.device in
    let s = c.self.inside in
    let prepared = c.prepare-prepared.ensures in
    let journal = c.prepare-prepared.new.journal in
    let done = kept_same device s.disk s.opened.value s.journal journal s.head s.history.exponent s.history.items s.tracker.fills s.sets.filled s.pending_fault c.self.invariant.0 prepared.journal in (
      subst (λ (e : ℕ). StoreInvariant device s.disk s.opened.value journal s.head e c.prepare-prepared.new.history.items c.prepare-prepared.new.tracker.fills s.sets.filled s.pending_fault) (sym prepared.history.2)
          (subst (λ (r : List Item). StoreInvariant device s.disk s.opened.value journal s.head s.history.exponent r c.prepare-prepared.new.tracker.fills s.sets.filled s.pending_fault) (sym prepared.history.0)
          (subst (λ (f : List Fill). StoreInvariant device s.disk s.opened.value journal s.head s.history.exponent s.history.items f s.sets.filled s.pending_fault) (sym prepared.fills) done)),
      prepared.history.1 ∙ c.self.invariant.1,
      c.self.invariant.2 ∙ ap (database_in s.head.mdb) (sym prepared.history.0),
      subst (λ (e : ℕ). AreMarksOf e c.prepare-prepared.new.history.items c.prepare-prepared.new.tracker.fills c.prepare-prepared.new.tracker.marks) (sym prepared.history.2)
          (subst (λ (r : List Item). AreMarksOf s.history.exponent r c.prepare-prepared.new.tracker.fills c.prepare-prepared.new.tracker.marks) (sym prepared.history.0) (prepared.marks s.history.exponent s.history.items c.self.invariant.3)),
      subst (λ (e : ℕ). HoldsFills s.head e c.prepare-prepared.new.history.items c.prepare-prepared.new.tracker.fills s.sets.filled) (sym prepared.history.2)
          (subst (λ (r : List Item). HoldsFills s.head s.history.exponent r c.prepare-prepared.new.tracker.fills s.sets.filled) (sym prepared.history.0)
          (subst (λ (f : List Fill). HoldsFills s.head s.history.exponent s.history.items f s.sets.filled) (sym prepared.fills) c.self.invariant.4)),
    )

pub returns-clause-crash : goal.returns-clause-crash
returns-clause-crash g c = crash g (goal.at.returns-clause-crash g c).After-append_entry

pub returns-in_default-clause-crash : goal.returns-in_default-clause-crash
returns-in_default-clause-crash g c transparent =
    let s = c.self.inside in
    unharmed g.D.Disk.device s.disk s.opened.value s.journal s.head s.history.exponent s.history.items s.tracker.fills s.sets.filled s.pending_fault c.self.invariant.0 c.args.self.now c.self.view_is (λ x. with_rows (filled_of x) (items_of c.args.fresh)) s.disk
    (sym (ap (λ (x : StoreView g.row.D.Denot). x.disk) c.self.view_is)) c.requires.healed transparent

-- the journal may take one record more
mid_healed : (g : Over) (c : In-Ok g) → unhealed_fault c.prepare-prepared.new.journal ≡ None
mid_healed g c =
    let s = c.self.inside in
    let none = subst (λ (x : StoreView g.row.D.Denot). pending_fault_of x.fills ≡ None) (sym c.self.view_is) c.requires.healed in
    ap faults_of c.prepare-prepared.ensures.journal.pending_fault ∙ healthy (unhealed_fault s.journal) (pending_fault_of s.tracker.fills) c.self.invariant.0.journal_fault none

pub append_entry-requires-clause-healed : goal.append_entry-requires-clause-healed
append_entry-requires-clause-healed g c = mid_healed g (goal.at.append_entry-requires-clause-healed g c).In-Ok

pub append_entry-requires-clause-below : goal.append_entry-requires-clause-below
append_entry-requires-clause-below g c = omega (arith, c.requires.records, ap (λ (x : StoreView g.row.D.Denot). x.records) c.self.view_is, ap length c.prepare-prepared.ensures.journal.extents)

pub add_all-requires-clause-tables : goal.add_all-requires-clause-tables
add_all-requires-clause-tables g c =
    let s = c.self.inside in
    let ok : AreAdmitted (archive s.head s.history.exponent s.history.items) c.args.fresh = subst (λ (x : StoreView g.row.D.Denot). AreAdmitted (archive x.head x.exponent x.history) c.args.fresh) (sym c.self.view_is) c.requires.admitted in
    subst (λ (rows : List Row). AllByRecursion (λ row. row.table < c.prepare-prepared.new.history.tables) rows) (sym c.in-Ok-append_entry.ensures.back)
    (placed_tables s.head s.history.items c.args.fresh c.prepare-prepared.new.history.tables (c.prepare-prepared.ensures.history.1 ∙ c.self.invariant.1) ok.placed)

pub touch-requires-clause-small : goal.touch-requires-clause-small
touch-requires-clause-small g c =
    let s = c.self.inside in
    let ok : AreAdmitted (archive s.head s.history.exponent s.history.items) c.args.fresh = subst (λ (x : StoreView g.row.D.Denot). AreAdmitted (archive x.head x.exponent x.history) c.args.fresh) (sym c.self.view_is) c.requires.admitted in
    omega (arith, c.len-first.ensures.rows, ap (λ (l : List Item). length (rows_in l)) c.prepare-prepared.ensures.history.0, ap length (c.as_slice-in-Ok-append_entry.ensures ∙ c.in-Ok-append_entry.ensures.back), ok.within.few, length-append (rows_in s.history.items) c.args.fresh)
