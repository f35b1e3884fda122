use Rattle.std.proofs.Common.{◌≡◌, inl, List, [], ◌∷◌, ◌++◌, length, true, Some, None, refl, sym, ◌∙◌, ap, subst}
use Rattle.std.specs.Prelude.{IfSome}
use Rattle.std.proofs.lemmas.Result.{err_from_is_err_and}
use Rattle.refusals.specs.Refusal.{refusal_of_rows}
use Rattle.intervals.specs.declared.interval.Interval.{Interval}
use Rattle.history_items.specs.declared.fills.Fill.{Fill}
use Rattle.history_items.specs.declared.fills.Fill.TheVariants.{Begun}
use Rattle.history_items.specs.Fills.{base_in}
use Rattle.history_items.proofs.FillLists.{base_after_item}
use Rattle.interval_fills.specs.Intervals.{rows_of_interval}
use Rattle.late_marks.specs.Marks.{Marks, is_late_free}
use Rattle.fill_tracker.specs.FillTracker.{AreMarksOf}
use Rattle.interval_fills.specs.Steps.{IsNextToFill, state_of}
use Rattle.archive_reading.specs.PartialArchive.{HoldsFills}
use Rattle.archive_store.specs.Inside.{StoreInvariant, view_of}
use Rattle.archive_store.specs.StoreView.{StoreView, OnlyAppends}
use Rattle.archive_store.specs.Tasks.{BeginsTask, IsFillBegun, machine_state}
use Rattle.archive_store.specs.UnreadRows.{IsLeftByRefusal, IsReadFault, IsReadRefusal}
use Rattle.archive_store.proofs.Calls.{passed_on}
use Rattle.archive_reading.proofs.Fillable.{holds_same}
use Rattle.archive_store.proofs.Going.{goes_fill, goes_same}
use Rattle.archive_store.proofs.IntervalRows.{whole_interval}
use Rattle.archive_store.proofs.SameFaults.{same_faults_item, same_faults_kept}
use Rattle.archive_images.proofs.Times.{stands_in_clock}
use Rattle.archive_store.proofs.UnreadRows.{fault_unread, memory_left}
use Rattle.archive_store.proofs.store.Store.begin.Goals as goal

-- the interval that is next has a moment of the clock
pub prepare_task-requires : goal.prepare_task-requires
prepare_task-requires g c =
    let s = c.self.inside in
    let i = c.in-Some.interval in
    let next : IsNextToFill s.history.exponent (state_of s.history.items s.tracker.fills) (Some i) = subst (IsNextToFill s.history.exponent (state_of s.history.items s.tracker.fills)) c.in-Some.is (c.next.ensures.next s.history.exponent s.history.items c.self.invariant.3) in
    let clock = stands_in_clock s.head s.history.exponent s.history.items i next.0.late.row.position c.self.invariant.0.rows next.0.late.row.stands in
    rw c.exponent.ensures clock

pub invariant_of-self-2 : goal.invariant_of-self-2
invariant_of-self-2 g c =
    let device = g.D.Disk.device in
    let s = c.self.inside in
    let k = c.self.invariant in
    let i = c.in-Some.interval in
    let base = c.in_ok-task.task.base in
    let same = c.prepare_task.ensures.same in
    let fills : c.begin.new.self.fills ≡ s.tracker.fills ++ Begun i base ∷ [] = c.begin.ensures.fills ∙ ap (λ (l : List Fill). l ++ Begun i base ∷ []) same.0 in
    let mid = subst (λ (m : Marks). AreMarksOf s.history.exponent s.history.items c.prepare_task.new.tracker.fills m) (sym same.1) (subst (λ (l : List Fill). AreMarksOf s.history.exponent s.history.items l s.tracker.marks) (sym same.0) k.3) in
    let done = same_faults_kept device s.disk s.opened.value s.journal s.head s.history.exponent s.history.items s.tracker.fills (s.tracker.fills ++ Begun i base ∷ []) s.sets.filled s.pending_fault k.0 (same_faults_item s.tracker.fills (Begun i base) tt) in (
      subst (λ (l : List Fill). StoreInvariant device s.disk s.opened.value s.journal s.head s.history.exponent s.history.items l s.sets.filled s.pending_fault) (sym fills) done,
      k.1,
      k.2,
      c.begin.ensures.marks s.history.exponent s.history.items mid,
      holds_same s.head s.history.exponent s.history.items s.tracker.fills c.begin.new.self.fills s.sets.filled k.4 (λ j. ap (base_in j) fills ∙ base_after_item j s.tracker.fills (Begun i base)),
    )

pub invariant_of-self : goal.invariant_of-self
invariant_of-self g c =
    let device = g.D.Disk.device in
    let s = c.self.inside in
    let k = c.self.invariant in
    let same = c.prepare_task.ensures.same in (
      subst (λ (l : List Fill). StoreInvariant device s.disk s.opened.value s.journal s.head s.history.exponent s.history.items l s.sets.filled s.pending_fault) (sym same.0) k.0,
      k.1,
      k.2,
      subst (λ (m : Marks). AreMarksOf s.history.exponent s.history.items c.prepare_task.new.tracker.fills m) (sym same.1) (subst (λ (l : List Fill). AreMarksOf s.history.exponent s.history.items l s.tracker.marks) (sym same.0) k.3),
      subst (λ (l : List Fill). HoldsFills s.head s.history.exponent s.history.items l s.sets.filled) (sym same.0) k.4,
    )

pub begin-requires-clause-free : goal.begin-requires-clause-free
begin-requires-clause-free g c =
    let same = c.prepare_task.ensures.same in
    let free = subst (λ o. IfSome o (λ i. is_late_free c.self.inside.tracker.marks i ≡ true)) c.in-Some.is c.next.ensures.free in
    subst (λ (m : Marks). is_late_free m c.in-Some.interval ≡ true) (sym same.1) free

pub returns-clause-begun : goal.returns-clause-begun
returns-clause-begun g c =
    let device = g.D.Disk.device in
    let s = c.self.inside in
    let i = c.in-Some.interval in
    let task = c.in_ok-task.task in
    let e = c.in_ok-task.ensures in
    let same = c.prepare_task.ensures.same in
    let fills : c.begin.new.self.fills ≡ s.tracker.fills ++ Begun i task.base ∷ [] = c.begin.ensures.fills ∙ ap (λ (l : List Fill). l ++ Begun i task.base ∷ []) same.0 in
    let begun : c.begin.new.self.fills ≡ s.tracker.fills ++ Begun task.interval task.base ∷ [] = fills ∙ ap (λ (j : Interval). s.tracker.fills ++ Begun j task.base ∷ []) (sym e.at.0) in
    let next : IsNextToFill s.history.exponent (state_of s.history.items s.tracker.fills) (Some i) = subst (IsNextToFill s.history.exponent (state_of s.history.items s.tracker.fills)) c.in-Some.is (c.next.ensures.next s.history.exponent s.history.items c.self.invariant.3) in
    let base : task.base ≡ length s.history.items = e.at.1 ∙ c.len.ensures.len in
    let next_is = subst (λ (j : Interval). IsNextToFill s.history.exponent (state_of s.history.items s.tracker.fills) (Some j)) (sym e.at.0) next in
    subst (λ (x : StoreView g.row.D.Denot). BeginsTask device x (view_of s.disk s.opened.value s.journal s.head s.history.exponent s.history.items c.begin.new.self.fills s.sets.filled) task) c.self.view_is (record {
      next = next_is;
      step = λ told. record {
        next = next_is;
        base_is = base;
        rows_are =
            e.told ∙ whole_interval s.history.exponent c.exponent.result c.len.result i s.history.items c.of-source.result c.exponent.ensures c.of-source.ensures c.len.ensures.len
            ∙ ap (λ (j : Interval). rows_of_interval s.history.exponent j s.history.items) (sym e.at.0);
        history = refl;
        fills = begun;
      };
      base = base;
      fills = begun;
      mdb = e.mdb ∙ c.self.invariant.2;
      exponent = e.at.2 ∙ c.exponent.ensures;
      reads = inl refl;
    })

pub returns-in_default-clause-begun : goal.returns-in_default-clause-begun
returns-in_default-clause-begun g c =
    let s = c.self.inside in
    let none = subst (IsNextToFill s.history.exponent (state_of s.history.items s.tracker.fills)) c.in_default.is (c.next.ensures.next s.history.exponent s.history.items c.self.invariant.3) in
    subst (λ (x : StoreView g.row.D.Denot). IsFillBegun g.D.Disk.device x x None) c.self.view_is (none, refl)

pub returns-clause-grows : goal.returns-clause-grows
returns-clause-grows g c =
    let s = c.self.inside in
    let same = c.prepare_task.ensures.same in
    let fills : c.begin.new.self.fills ≡ s.tracker.fills ++ Begun c.in-Some.interval c.in_ok-task.task.base ∷ [] = c.begin.ensures.fills ∙ ap (λ (l : List Fill). l ++ Begun c.in-Some.interval c.in_ok-task.task.base ∷ []) same.0 in
    let new : StoreView g.row.D.Denot = view_of s.disk s.opened.value s.journal s.head s.history.exponent s.history.items c.begin.new.self.fills s.sets.filled in
    subst (λ (x : StoreView g.row.D.Denot). OnlyAppends x new) c.self.view_is
    (goes_fill (view_of s.disk s.opened.value s.journal s.head s.history.exponent s.history.items s.tracker.fills s.sets.filled) new (Begun c.in-Some.interval c.in_ok-task.task.base) refl fills refl refl refl refl)

pub returns-in_err-task-clause-grows : goal.returns-in_err-task-clause-grows
returns-in_err-task-clause-grows g c =
    let s = c.self.inside in
    let new : StoreView g.row.D.Denot = view_of s.disk s.opened.value s.journal s.head s.history.exponent s.history.items c.prepare_task.new.tracker.fills s.sets.filled in
    subst (λ (x : StoreView g.row.D.Denot). OnlyAppends x new) c.self.view_is
    (goes_same (view_of s.disk s.opened.value s.journal s.head s.history.exponent s.history.items s.tracker.fills s.sets.filled) new refl c.prepare_task.ensures.same.0 refl refl refl refl)

pub returns-in_err-task-clause-refused : goal.returns-in_err-task-clause-refused
returns-in_err-task-clause-refused g c =
    let s = c.self.inside in
    let device = g.D.Disk.device in
    let fault = c.in_err-task.field-0.0 in
    let new : StoreView g.row.D.Denot = view_of s.disk s.opened.value s.journal s.head s.history.exponent s.history.items c.prepare_task.new.tracker.fills s.sets.filled in
    let unread : IsReadFault device c.args.self.now new fault = fault_unread device c.args.self.now new fault c.of-source.result c.prepare_task.new.source c.in_err-task.ensures.refused in
    passed_on c.from_residual.result (refusal_of_rows fault) (IsReadRefusal device c.args.self.now new) c.from_residual.ensures.1 (fault, unread, refl)

pub returns-in_err-task-clause-same : goal.returns-in_err-task-clause-same
returns-in_err-task-clause-same g c =
    let s = c.self.inside in
    let device = g.D.Disk.device in
    let fault = c.in_err-task.field-0.0 in
    let new : StoreView g.row.D.Denot = view_of s.disk s.opened.value s.journal s.head s.history.exponent s.history.items c.prepare_task.new.tracker.fills s.sets.filled in
    let same : new ≡ c.args.self.now = ap (λ (l : List Fill). view_of s.disk s.opened.value s.journal s.head s.history.exponent s.history.items l s.sets.filled) c.prepare_task.ensures.same.0 ∙ c.self.view_is in
    passed_on c.from_residual.result (refusal_of_rows fault) (IsLeftByRefusal device c.args.self.now new) c.from_residual.ensures.1
    (memory_left device c.args.self.now new fault (fault_unread device c.args.self.now new fault c.of-source.result c.prepare_task.new.source c.in_err-task.ensures.refused) same)

-- it was to begin
pub returns-in_err-task-clause-late : goal.returns-in_err-task-clause-late
returns-in_err-task-clause-late g c =
    let s = c.self.inside in
    let i = c.in-Some.interval in
    let next : IsNextToFill s.history.exponent (state_of s.history.items s.tracker.fills) (Some i) = subst (IsNextToFill s.history.exponent (state_of s.history.items s.tracker.fills)) c.in-Some.is (c.next.ensures.next s.history.exponent s.history.items c.self.invariant.3) in
    let late = subst (λ (x : StoreView g.row.D.Denot). (interval : Interval) × IsNextToFill x.exponent (machine_state x) (Some interval)) c.self.view_is (i, next) in
    let p = err_from_is_err_and c.from_residual.result c.from_residual.ensures.1 in
    rw p.1 late
