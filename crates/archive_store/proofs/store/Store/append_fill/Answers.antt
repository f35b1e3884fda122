use Rattle.std.proofs.Common.{◌≡◌, ◌⊎◌, ℕ, ◌<◌, ◌++◌, ◌-◌, ◌^◌, [], ◌∷◌, List, length, true, Some, None, refl, sym, ◌∙◌, ap, subst, arith}
use Rattle.std.specs.Prelude.{IsTrue}
use Rattle.arch_disk.specs.Disk.{LeavesOnly}
use Rattle.intervals.specs.declared.interval.Interval.{Interval}
use Rattle.disk_journal.specs.Calls.{IsAppendFailed}
use Rattle.disk_journal.specs.Format.{IsBeforeOrAfter}
use Rattle.disk_journal.specs.State.{HasOnDisk as JournalHasOnDisk}
use Rattle.disk_journal.specs.State.{unhealed_fault, faults_of, file_of}
use Rattle.disk_journal.proofs.Calls.{appended_on, append_failed_on, append_crash_on}
use Rattle.fill_tracker.specs.FillTracker.{AreMarksOf, FillTrackerView}
use Rattle.history_items.specs.declared.fills.Addition.TheVariants as additions
use Rattle.history_items.specs.declared.fills.Fill.{Fill}
use Rattle.history_items.specs.declared.fills.Fill.TheVariants.{Done}
use Rattle.history_items.specs.Fills.{base_in, pending_fault_of}
use Rattle.history_items.specs.Items.{prefix}
use Rattle.history_items.specs.Databases.{database_in}
use Rattle.history_items.proofs.FillLists.{base_after_item}
use Rattle.interval_fills.specs.Intervals.{NoneSince}
use Rattle.interval_fills.specs.Steps.{IsFillBase, IsStoredBase, state_of}
use Rattle.interval_fills.proofs.Growing.{stored_base}
use Rattle.late_marks.specs.Marks.{Marks, has_rows}
use Rattle.mdb_items.specs.Database.{Database}
use Rattle.param_segments.specs.Extracted.{IsSetOf}
use Rattle.param_segments.specs.Rows.{SetRow}
use Rattle.store_fills.specs.Filled.{IsRightFill}
use Rattle.store_fills.specs.LastFills.{PlacedFills, fill_over, filling_of, fillings_in}
use Rattle.store_fills.specs.Sound.{Filling, with_filling}
use Rattle.archive_images.specs.Entries.{filled_archive}
use Rattle.archive_reading.specs.PartialArchive.{HoldsFills}
use Rattle.archive_store.specs.Inside.{StoreInvariant, view_of}
use Rattle.archive_store.specs.Installs.{FillIsAppended, IsOwnFill, filled_with}
use Rattle.archive_images.specs.Stands.{StandsFilled}
use Rattle.archive_store.specs.StoreView.{AddsFault, OnlyAppends, StoreView, filled_of}
use Rattle.archive_reading.proofs.Fillable.{holds_done, holds_same, marked_has}
use Rattle.archive_store.proofs.Going.{goes_fill, goes_same}
use Rattle.archive_store.proofs.Kept.{healthy, kept_same}
use Rattle.archive_store.proofs.KeptFills.{fill_fault, fill_err, fill_moments, fill_ok, unharmed, with_fill}
use Rattle.archive_images.proofs.PlainImages.{StandsPlain}
use Rattle.archive_store.proofs.PlainLog.{either_filled}
use Rattle.archive_store.proofs.SameFaults.{same_faults_item, same_faults_kept}
use Rattle.archive_store.proofs.store.Store.append_fill.Given.{Over}
use Rattle.archive_store.proofs.store.Store.append_fill.Goals.{After-prepare_fill-prepared, After-append_entry, After-put, In-Err}
use Rattle.archive_store.proofs.store.Store.append_fill.Goals as goal

-- preparing leaves the store as it was
module _ (g : Over) (c : After-prepare_fill-prepared g) where
  kept : StoreInvariant g.D.Disk.device c.self.inside.disk c.self.inside.opened.value c.prepare_fill-prepared.new.journal c.self.inside.head c.self.inside.history.exponent c.self.inside.history.items c.self.inside.tracker.fills c.self.inside.sets.filled c.self.inside.pending_fault
  kept =
      let s = c.self.inside in
      kept_same g.D.Disk.device s.disk s.opened.value s.journal c.prepare_fill-prepared.new.journal s.head s.history.exponent s.history.items s.tracker.fills s.sets.filled s.pending_fault c.self.invariant.0 c.prepare_fill-prepared.ensures.journal

  marks : AreMarksOf c.self.inside.history.exponent c.self.inside.history.items c.prepare_fill-prepared.new.tracker.fills c.prepare_fill-prepared.new.tracker.marks
  marks =
      let history = c.self.inside.history in
      let prepared = c.prepare_fill-prepared in
      subst (λ (m : Marks). AreMarksOf history.exponent history.items prepared.new.tracker.fills m) (sym prepared.ensures.tracker.1) (subst (λ (l : List Fill). AreMarksOf history.exponent history.items l c.self.inside.tracker.marks) (sym prepared.ensures.tracker.0) c.self.invariant.3)

module _ (g : Over) (c : After-append_entry g) where
  healed : pending_fault_of c.self.inside.tracker.fills ≡ None
  healed = subst (λ (x : StoreView g.row.D.Denot). pending_fault_of x.fills ≡ None) (sym c.self.view_is) c.requires.healed

  right : IsTrue g.D.Disk.device.is_transparent → IsRightFill c.self.inside.history.exponent c.self.inside.head.mdb c.self.inside.history.items c.args.done.interval c.args.done.base c.args.done.set
  right transparent = subst (λ (x : StoreView g.row.D.Denot). IsRightFill x.exponent x.head.mdb x.history c.args.done.interval c.args.done.base c.args.done.set) (sym c.self.view_is) (c.requires.right transparent).1

  -- its set is one of the interval and of the database that is in force below its base
  fits : IsSetOf (database_in c.self.inside.head.mdb (prefix c.args.done.base c.self.inside.history.items)) c.self.inside.history.exponent c.args.done.interval.0 c.args.done.set
  fits =
      let done = c.args.done in
      let own : IsOwnFill c.args.self.now done = (c.may_stand.ensures.0 c.if-not-may_stand.false).1 in
      subst (λ (x : StoreView g.row.D.Denot). IsSetOf (database_in x.head.mdb (prefix done.base x.history)) x.exponent done.interval.0 done.set) (sym c.self.view_is)
      (subst (λ (db : Database). IsSetOf db c.args.self.now.exponent done.interval.0 done.set) own.0 (subst (λ (e : ℕ). IsSetOf done.mdb e done.interval.0 done.set) own.1 c.into_parts-parts.ensures.inside))

  -- a crash leaves the fills as they were, or this one with them
  moments : IsTrue g.D.Disk.device.is_transparent → LeavesOnly g.D.Disk.device c.self.inside.disk c.append_entry.new.disk (λ i. StandsPlain i (filled_archive c.self.inside.head c.self.inside.history.exponent c.self.inside.history.items (fillings_in c.self.inside.sets.filled))
      ⊎ StandsPlain i (with_fill c.self.inside.head c.self.inside.history.exponent c.self.inside.history.items (fillings_in c.self.inside.sets.filled) c.args.done.interval c.args.done.base c.args.done.set))
  moments =
      let device = g.D.Disk.device in
      let s = c.self.inside in
      let mid = c.prepare_fill-prepared.new.journal in
      let done = c.args.done in
      let parts = c.into_parts-parts.ensures in
      let run = λ (transparent : IsTrue device.is_transparent) (bodies : List (List ℕ)) (pending : List ℕ) (keeps : JournalHasOnDisk device mid bodies pending s.disk) (no_pending_fault : unhealed_fault mid ≡ None).
      subst (λ (b : List ℕ). LeavesOnly device s.disk c.append_entry.new.disk (λ i. IsBeforeOrAfter bodies b (i (file_of mid)))) parts.frame (append_crash_on device mid bodies pending s.disk transparent keeps c.append_entry.new.disk c.into_parts-parts.result.0 (c.append_entry.ensures.crash)) in
      fill_moments device s.disk c.append_entry.new.disk s.opened.value s.journal mid s.head s.history.exponent s.history.items s.tracker.fills s.sets.filled s.pending_fault done.interval done.base done.set c.self.invariant.0 right parts.fits parts.value healed c.prepare_fill-prepared.ensures.journal run c.append_entry.ensures.others.crash

  crash : IsTrue g.D.Disk.device.is_transparent → LeavesOnly g.D.Disk.device c.args.self.now.disk c.append_entry.new.disk (λ i. StandsFilled i (filled_of c.args.self.now) ⊎ StandsFilled i (filled_with c.args.self.now c.args.done))
  crash =
      let device = g.D.Disk.device in
      let s = c.self.inside in
      subst (λ (x : StoreView g.row.D.Denot). IsTrue device.is_transparent → LeavesOnly device x.disk c.append_entry.new.disk (λ i. StandsFilled i (filled_of x) ⊎ StandsFilled i (filled_with x c.args.done))) c.self.view_is
      (λ transparent. either_filled device s.disk c.append_entry.new.disk (filled_archive s.head s.history.exponent s.history.items (fillings_in s.sets.filled)) (with_fill s.head s.history.exponent s.history.items (fillings_in s.sets.filled) c.args.done.interval c.args.done.base c.args.done.set) (moments transparent))

-- the fill is noted, and put in its place
module _ (g : Over) (c : After-put g) where
  fills : c.finish.new.self.fills ≡ c.self.inside.tracker.fills ++ Done c.args.done.interval c.args.done.base ∷ []
  fills = let same = ap (λ (t : FillTrackerView). t.fills) c.in-Ok-append_entry.ensures.same in cc (c.finish.ensures.fills, same, c.prepare_fill-prepared.ensures.tracker.0, c.interval-interval.ensures, c.base-base.ensures)

  put : fillings_in c.put.new.self.filled ≡ with_filling (fillings_in c.self.inside.sets.filled) c.args.done.interval (fill_over c.args.done.base c.args.done.set)
  put =
      let fill : Filling (List SetRow) = filling_of c.into_parts-parts.result.1 in
      let filled = c.self.inside.sets.filled in
      c.put.ensures ∙ ap (λ (f : PlacedFills). with_filling (fillings_in f) c.interval-interval.result fill) c.prepare_fill-prepared.ensures.sets
      ∙ ap (λ (j : Interval). with_filling (fillings_in filled) j fill) c.interval-interval.ensures ∙ ap (with_filling (fillings_in filled) c.args.done.interval) c.into_parts-parts.ensures.fill

-- the append failed at a write, and the fault that is noted holds the fill
module _ (g : Over) (c : In-Err g) where
  write_failed : IsAppendFailed g.D.Disk.device c.prepare_fill-prepared.new.journal c.append_entry.new.journal c.self.inside.disk c.append_entry.new.disk c.into_parts-parts.result.0
  write_failed = c.in-Err.ensures.failed.failed

  fault_noted : c.append_entry.new.tracker.fills ≡ c.self.inside.tracker.fills ++ fill_fault c.in-Err.count c.args.done.interval c.args.done.base ∷ []
  fault_noted = let noted = c.in-Err.ensures.failed.fault in cc (noted, c.prepare_fill-prepared.ensures.tracker.0, c.interval-interval.ensures, c.base-base.ensures)

-- the journal may take one record more
mid_healed : (g : Over) (c : After-prepare_fill-prepared g) → unhealed_fault c.prepare_fill-prepared.new.journal ≡ None
mid_healed g c =
    let s = c.self.inside in
    let none = subst (λ (x : StoreView g.row.D.Denot). pending_fault_of x.fills ≡ None) (sym c.self.view_is) c.requires.healed in
    ap faults_of c.prepare_fill-prepared.ensures.journal.pending_fault ∙ healthy (unhealed_fault s.journal) (pending_fault_of s.tracker.fills) c.self.invariant.0.journal_fault none

pub append_entry-requires-clause-healed : goal.append_entry-requires-clause-healed
append_entry-requires-clause-healed g c = mid_healed g (goal.at.append_entry-requires-clause-healed g c).After-prepare_fill-prepared

pub append_entry-requires-clause-below : goal.append_entry-requires-clause-below
append_entry-requires-clause-below g c = omega (arith, c.requires.records, ap (λ (x : StoreView g.row.D.Denot). x.records) c.self.view_is, ap length c.prepare_fill-prepared.ensures.journal.extents)

pub returns-in-Err-clause-refused : goal.returns-in-Err-clause-refused
returns-in-Err-clause-refused g c =
    let at = goal.at.returns-in-Err-clause-refused g c in
    let s = c.self.inside in
    let prepared = c.prepare_fill-prepared in
    let failed = write_failed g at.In-Err in
    let new : StoreView g.row.D.Denot = view_of c.append_entry.new.disk s.opened.value c.append_entry.new.journal s.head s.history.exponent s.history.items c.append_entry.new.tracker.fills prepared.new.sets.filled in
    subst (λ (x : StoreView g.row.D.Denot). AddsFault g.D.Disk.device x new true (additions.Fill c.args.done.interval c.args.done.base)) c.self.view_is (record {
      history = refl;
      filled = prepared.ensures.sets;
      records = failed.count ∙ ap length prepared.ensures.journal.extents;
      count = c.in-Err.count;
      count_is = c.in-Err.ensures.failed.count_is;
      fills = fault_noted g at.In-Err;
      rose = failed.rose;
      writes = failed.wrote;
    })

-- the interval has a row
pub finish-requires-clause-rows : goal.finish-requires-clause-rows
finish-requires-clause-rows g c =
    let s = c.self.inside in
    let i : Interval = c.interval-interval.result in
    let done = c.args.done in
    let may : IsFillBase s.history.exponent done.interval done.base s.history.items = subst (λ (x : StoreView g.row.D.Denot). IsFillBase x.exponent done.interval done.base x.history) (sym c.self.view_is) (c.may_stand.ensures.0 c.if-not-may_stand.false).0 in
    let based = subst (λ (j : Interval). IsStoredBase s.history.exponent j done.base s.history.items) (sym c.interval-interval.ensures) (stored_base s.history.exponent done.interval done.base s.history.items may) in
    let same = ap (λ (t : FillTrackerView). t.marks) c.in-Ok-append_entry.ensures.same ∙ c.prepare_fill-prepared.ensures.tracker.1 in
    subst (λ (m : Marks). has_rows m i ≡ true) (sym same) (marked_has s.history.exponent s.history.items s.tracker.fills s.tracker.marks i done.base c.self.invariant.3 based)

pub invariant_of-self-in-Ok-append_entry : goal.invariant_of-self-in-Ok-append_entry
invariant_of-self-in-Ok-append_entry g c =
    let at = goal.at.invariant_of-self-in-Ok-append_entry g c in
    let device = g.D.Disk.device in
    let s = c.self.inside in
    let mid = c.prepare_fill-prepared.new.journal in
    let done = c.args.done in
    let parts = c.into_parts-parts.ensures in
    let appended = c.in-Ok-append_entry.ensures.appended.1 in
    let keeps = λ (transparent : IsTrue device.is_transparent) (bodies : List (List ℕ)) (pending : List ℕ) (keeps : JournalHasOnDisk device mid bodies pending s.disk).
    subst (λ (b : List ℕ). JournalHasOnDisk device c.append_entry.new.journal (bodies ++ b ∷ []) pending c.append_entry.new.disk) parts.frame (appended_on device mid bodies pending s.disk transparent keeps c.append_entry.new.journal c.append_entry.new.disk c.into_parts-parts.result.0 _ appended) in
    let there = fill_ok device s.disk c.append_entry.new.disk s.opened.value mid c.append_entry.new.journal s.head s.history.exponent s.history.items s.tracker.fills s.sets.filled s.pending_fault done.interval done.base done.set (kept g at.After-prepare_fill-prepared) (right g at.After-append_entry) parts.fits parts.value (healed g at.After-append_entry)
    c.put.new.self.filled (put g at.After-put) c.append_entry.ensures.file appended.no_pending_fault keeps (moments g at.After-append_entry) c.append_entry.ensures.others.crash c.append_entry.ensures.counts.faults appended.no_failed_write in
    let noted = same_faults_kept device c.append_entry.new.disk s.opened.value c.append_entry.new.journal s.head s.history.exponent s.history.items s.tracker.fills (s.tracker.fills ++ Done done.interval done.base ∷ []) c.put.new.self.filled s.pending_fault there (same_faults_item s.tracker.fills (Done done.interval done.base) tt) in (
      subst (λ (l : List Fill). StoreInvariant device c.append_entry.new.disk s.opened.value c.append_entry.new.journal s.head s.history.exponent s.history.items l c.put.new.self.filled s.pending_fault) (sym (fills g at.After-put)) noted,
      c.self.invariant.1,
      c.self.invariant.2,
      c.finish.ensures.marks s.history.exponent s.history.items (c.append_entry.ensures.marks s.history.exponent s.history.items (marks g at.After-prepare_fill-prepared)),
      holds_done s.head s.history.exponent s.history.items s.tracker.fills c.finish.new.self.fills s.sets.filled c.put.new.self.filled done.interval done.base done.set c.self.invariant.4 (fills g at.After-put) (put g at.After-put) (fits g at.After-append_entry),
    )

pub invariant_of-self-in-Err-append_entry : goal.invariant_of-self-in-Err-append_entry
invariant_of-self-in-Err-append_entry g c =
    let at = goal.at.invariant_of-self-in-Err-append_entry g c in
    let device = g.D.Disk.device in
    let s = c.self.inside in
    let prepared = c.prepare_fill-prepared.ensures in
    let mid = c.prepare_fill-prepared.new.journal in
    let done = c.args.done in
    let parts = c.into_parts-parts.ensures in
    let failed = write_failed g at.In-Err in
    let keeps = λ (transparent : IsTrue device.is_transparent) (bodies : List (List ℕ)) (pending : List ℕ) (keeps : JournalHasOnDisk device mid bodies pending s.disk).
    subst (λ (b : List ℕ). JournalHasOnDisk device c.append_entry.new.journal bodies b c.append_entry.new.disk) parts.frame (append_failed_on device mid bodies pending s.disk transparent keeps c.append_entry.new.journal c.append_entry.new.disk c.into_parts-parts.result.0 failed) in
    let count = c.in-Err.count in
    let since : NoneSince s.history.exponent done.interval done.base s.history.items = subst (λ (x : StoreView g.row.D.Denot). NoneSince x.exponent done.interval done.base x.history) (sym c.self.view_is) c.requires.none in
    let noted = fill_err device s.disk c.append_entry.new.disk s.opened.value mid c.append_entry.new.journal s.head s.history.exponent s.history.items s.tracker.fills s.sets.filled s.pending_fault done.interval done.base done.set (kept g at.After-prepare_fill-prepared) (right g at.After-append_entry) parts.fits parts.value (healed g at.After-append_entry)
    count since c.append_entry.ensures.file failed.pending_fault c.in-Err.ensures.failed.count_is keeps (moments g at.After-append_entry) c.append_entry.ensures.others.crash failed.rose failed.wrote in
    let fills = fault_noted g at.In-Err in
    let same = holds_same s.head s.history.exponent s.history.items s.tracker.fills c.append_entry.new.tracker.fills s.sets.filled c.self.invariant.4 (λ j. ap (base_in j) fills ∙ base_after_item j s.tracker.fills (fill_fault count done.interval done.base)) in (
      subst (λ (f : PlacedFills). StoreInvariant device c.append_entry.new.disk s.opened.value c.append_entry.new.journal s.head s.history.exponent s.history.items c.append_entry.new.tracker.fills f (Some count)) (sym prepared.sets)
          (subst (λ (l : List Fill). StoreInvariant device c.append_entry.new.disk s.opened.value c.append_entry.new.journal s.head s.history.exponent s.history.items l s.sets.filled (Some count)) (sym fills) noted),
      c.self.invariant.1,
      c.self.invariant.2,
      c.append_entry.ensures.marks s.history.exponent s.history.items (marks g at.After-prepare_fill-prepared),
      subst (λ (f : PlacedFills). HoldsFills s.head s.history.exponent s.history.items c.append_entry.new.tracker.fills f) (sym prepared.sets) same,
    )

pub invariant_of-self : goal.invariant_of-self
invariant_of-self g c =
    let at = (goal.at.invariant_of-self g c).After-prepare_fill-prepared in
    let s = c.self.inside in
    let prepared = c.prepare_fill-prepared.ensures in
    let mid = c.prepare_fill-prepared.new.journal in
    let now = c.prepare_fill-prepared.new.tracker.fills in (
      subst (λ (f : PlacedFills). StoreInvariant g.D.Disk.device s.disk s.opened.value mid s.head s.history.exponent s.history.items now f s.pending_fault) (sym prepared.sets)
          (subst (λ (l : List Fill). StoreInvariant g.D.Disk.device s.disk s.opened.value mid s.head s.history.exponent s.history.items l s.sets.filled s.pending_fault) (sym prepared.tracker.0) (kept g at)),
      c.self.invariant.1,
      c.self.invariant.2,
      marks g at,
      subst (λ (f : PlacedFills). HoldsFills s.head s.history.exponent s.history.items now f) (sym prepared.sets) (subst (λ (l : List Fill). HoldsFills s.head s.history.exponent s.history.items l s.sets.filled) (sym prepared.tracker.0) c.self.invariant.4),
    )

pub returns-in-Ok-append_entry-clause-appended : goal.returns-in-Ok-append_entry-clause-appended
returns-in-Ok-append_entry-clause-appended g c =
    let at = goal.at.returns-in-Ok-append_entry-clause-appended g c in
    let s = c.self.inside in
    let done = c.args.done in
    let none : NoneSince s.history.exponent done.interval done.base s.history.items = subst (λ (x : StoreView g.row.D.Denot). NoneSince x.exponent done.interval done.base x.history) (sym c.self.view_is) c.requires.none in
    let appended = c.in-Ok-append_entry.ensures.appended.1 in
    let new : StoreView g.row.D.Denot = view_of c.append_entry.new.disk s.opened.value c.append_entry.new.journal s.head s.history.exponent s.history.items c.finish.new.self.fills c.put.new.self.filled in
    subst (λ (x : StoreView g.row.D.Denot). FillIsAppended g.D.Disk.device x new done) c.self.view_is (record {
      step = (none, ap (state_of s.history.items) (fills g at.After-put));
      may = subst (λ (x : StoreView g.row.D.Denot). IsFillBase x.exponent done.interval done.base x.history) (sym c.self.view_is) (c.may_stand.ensures.0 c.if-not-may_stand.false).0;
      own = subst (λ (x : StoreView g.row.D.Denot). IsOwnFill x done) (sym c.self.view_is) (c.may_stand.ensures.0 c.if-not-may_stand.false).1;
      filled = put g at.After-put;
      records = omega (arith, appended.count, appended.place_is, ap length c.prepare_fill-prepared.ensures.journal.extents);
      no_failed_write = appended.no_failed_write;
      no_fault = c.in-Ok-append_entry.ensures.told;
    })

pub returns-in-Ok-append_entry-clause-grows : goal.returns-in-Ok-append_entry-clause-grows
returns-in-Ok-append_entry-clause-grows g c =
    let s = c.self.inside in
    let new : StoreView g.row.D.Denot = view_of c.append_entry.new.disk s.opened.value c.append_entry.new.journal s.head s.history.exponent s.history.items c.finish.new.self.fills c.put.new.self.filled in
    subst (λ (x : StoreView g.row.D.Denot). OnlyAppends x new) c.self.view_is
    (goes_fill (view_of s.disk s.opened.value s.journal s.head s.history.exponent s.history.items s.tracker.fills s.sets.filled) new (Done c.args.done.interval c.args.done.base) refl (fills g (goal.at.returns-in-Ok-append_entry-clause-grows g c).After-put) refl refl refl refl)

pub returns-in-Ok-append_entry-clause-crash : goal.returns-in-Ok-append_entry-clause-crash
returns-in-Ok-append_entry-clause-crash g c = crash g (goal.at.returns-in-Ok-append_entry-clause-crash g c).After-append_entry

pub returns-in-Err-clause-crash : goal.returns-in-Err-clause-crash
returns-in-Err-clause-crash g c = crash g (goal.at.returns-in-Err-clause-crash g c).After-append_entry

pub returns-in_default-clause-crash : goal.returns-in_default-clause-crash
returns-in_default-clause-crash g c transparent =
    let s = c.self.inside in
    unharmed g.D.Disk.device s.disk s.opened.value s.journal s.head s.history.exponent s.history.items s.tracker.fills s.sets.filled s.pending_fault c.self.invariant.0 c.args.self.now c.self.view_is (λ x. filled_with x c.args.done) s.disk
    (sym (ap (λ (x : StoreView g.row.D.Denot). x.disk) c.self.view_is)) c.requires.healed transparent

pub returns-in-Err-clause-grows : goal.returns-in-Err-clause-grows
returns-in-Err-clause-grows g c =
    let s = c.self.inside in
    let new : StoreView g.row.D.Denot = view_of c.append_entry.new.disk s.opened.value c.append_entry.new.journal s.head s.history.exponent s.history.items c.append_entry.new.tracker.fills c.prepare_fill-prepared.new.sets.filled in
    subst (λ (x : StoreView g.row.D.Denot). OnlyAppends x new) c.self.view_is
    (goes_fill (view_of s.disk s.opened.value s.journal s.head s.history.exponent s.history.items s.tracker.fills s.sets.filled) new (fill_fault c.in-Err.count c.args.done.interval c.args.done.base) refl (let at = goal.at.returns-in-Err-clause-grows g c in fault_noted g at.In-Err) refl refl refl refl)

pub returns-in_default-clause-grows : goal.returns-in_default-clause-grows
returns-in_default-clause-grows g c =
    let s = c.self.inside in
    let prepared = c.prepare_fill-prepared in
    let new : StoreView g.row.D.Denot = view_of s.disk s.opened.value prepared.new.journal s.head s.history.exponent s.history.items prepared.new.tracker.fills prepared.new.sets.filled in
    subst (λ (x : StoreView g.row.D.Denot). OnlyAppends x new) c.self.view_is
    (goes_same (view_of s.disk s.opened.value s.journal s.head s.history.exponent s.history.items s.tracker.fills s.sets.filled) new refl prepared.ensures.tracker.0 refl refl refl refl)

-- ---- one that may not stand

pub returns-then-not-may_stand-clause-crash : goal.returns-then-not-may_stand-clause-crash
returns-then-not-may_stand-clause-crash g c transparent =
    let s = c.self.inside in
    unharmed g.D.Disk.device s.disk s.opened.value s.journal s.head s.history.exponent s.history.items s.tracker.fills s.sets.filled s.pending_fault c.self.invariant.0 c.args.self.now c.self.view_is (λ x. filled_with x c.args.done) c.args.self.now.disk refl c.requires.healed transparent

pub returns-then-not-may_stand-clause-grows : goal.returns-then-not-may_stand-clause-grows
returns-then-not-may_stand-clause-grows g c = goes_same c.args.self.now c.args.self.now refl refl refl refl refl refl
