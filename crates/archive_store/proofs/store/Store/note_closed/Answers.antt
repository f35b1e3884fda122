use Rattle.std.proofs.Common.{◌≡◌, List, [], ◌∷◌, ◌++◌, Result, Ok, Err, refl, sym, ◌∙◌, ap, subst}
use Rattle.std.specs.Result.{OnErr}
use Rattle.history_items.specs.declared.fills.Fill.{Fill}
use Rattle.history_items.specs.declared.fills.Fill.TheVariants.{Closed}
use Rattle.history_items.specs.Fills.{base_in}
use Rattle.history_items.proofs.FillLists.{base_after_item}
use Rattle.late_marks.specs.Marks.{Marks}
use Rattle.fill_tracker.specs.FillTracker.{AreMarksOf}
use Rattle.archive_reading.specs.PartialArchive.{HoldsFills}
use Rattle.archive_store.specs.Inside.{StoreInvariant, view_of}
use Rattle.archive_store.specs.StoreView.{StoreView, OnlyAppends}
use Rattle.archive_reading.proofs.Fillable.{holds_same}
use Rattle.archive_store.proofs.Going.{goes_fill, goes_same}
use Rattle.archive_store.proofs.SameFaults.{same_faults_item, same_faults_kept, with_fills}
use Rattle.archive_store.proofs.store.Store.note_closed.Goals as goal

where_err : {T E P : Type 0} (r : Result T E) → P → OnErr r P
where_err (Ok value) holds = tt
where_err (Err error) holds = holds

-- refused, its fill list and its marks are as they were
pub invariant_of-self : goal.invariant_of-self
invariant_of-self g c =
    let s = c.self.inside in
    let k = c.self.invariant in
    let same = c.reserve.ensures.same in (
      subst (λ (l : List Fill). StoreInvariant g.D.Disk.device s.disk s.opened.value s.journal s.head s.history.exponent s.history.items l s.sets.filled s.pending_fault) (sym same.0) k.0,
      k.1,
      k.2,
      subst (λ (m : Marks). AreMarksOf s.history.exponent s.history.items c.reserve.new.self.fills m) (sym same.1) (subst (λ (l : List Fill). AreMarksOf s.history.exponent s.history.items l s.tracker.marks) (sym same.0) k.3),
      subst (λ (l : List Fill). HoldsFills s.head s.history.exponent s.history.items l s.sets.filled) (sym same.0) k.4,
    )

pub returns-in_err-reserve-clause-refused : goal.returns-in_err-reserve-clause-refused
returns-in_err-reserve-clause-refused g c =
    let s = c.self.inside in
    where_err c.from_residual.result (ap (λ (l : List Fill). view_of s.disk s.opened.value s.journal s.head s.history.exponent s.history.items l s.sets.filled) c.reserve.ensures.same.0 ∙ c.self.view_is)

pub returns-in_err-reserve-clause-grows : goal.returns-in_err-reserve-clause-grows
returns-in_err-reserve-clause-grows g c =
    let s = c.self.inside in
    let new : StoreView g.row.D.Denot = view_of s.disk s.opened.value s.journal s.head s.history.exponent s.history.items c.reserve.new.self.fills s.sets.filled in
    subst (λ (x : StoreView g.row.D.Denot). OnlyAppends x new) c.self.view_is
    (goes_same (view_of s.disk s.opened.value s.journal s.head s.history.exponent s.history.items s.tracker.fills s.sets.filled) new refl c.reserve.ensures.same.0 refl refl refl refl)

pub invariant_of-self-2 : goal.invariant_of-self-2
invariant_of-self-2 g c =
    let device = g.D.Disk.device in
    let s = c.self.inside in
    let k = c.self.invariant in
    let same = c.reserve.ensures.same in
    let fills : c.note_closed.new.self.fills ≡ s.tracker.fills ++ Closed ∷ [] = c.note_closed.ensures.fills ∙ ap (λ (l : List Fill). l ++ Closed ∷ []) same.0 in
    let mid = subst (λ (m : Marks). AreMarksOf s.history.exponent s.history.items c.reserve.new.self.fills m) (sym same.1) (subst (λ (l : List Fill). AreMarksOf s.history.exponent s.history.items l s.tracker.marks) (sym same.0) k.3) in
    let done = same_faults_kept device s.disk s.opened.value s.journal s.head s.history.exponent s.history.items s.tracker.fills (s.tracker.fills ++ Closed ∷ []) s.sets.filled s.pending_fault k.0 (same_faults_item s.tracker.fills Closed tt) in (
      subst (λ (l : List Fill). StoreInvariant device s.disk s.opened.value s.journal s.head s.history.exponent s.history.items l s.sets.filled s.pending_fault) (sym fills) done,
      k.1,
      k.2,
      c.note_closed.ensures.marks s.history.exponent s.history.items mid,
      holds_same s.head s.history.exponent s.history.items s.tracker.fills c.note_closed.new.self.fills s.sets.filled k.4 (λ j. ap (base_in j) fills ∙ base_after_item j s.tracker.fills Closed),
    )

pub returns-clause-noted : goal.returns-clause-noted
returns-clause-noted g c =
    let s = c.self.inside in
    ap (λ (l : List Fill). view_of s.disk s.opened.value s.journal s.head s.history.exponent s.history.items l s.sets.filled) (c.note_closed.ensures.fills ∙ ap (λ (l : List Fill). l ++ Closed ∷ []) c.reserve.ensures.same.0)
    ∙ ap (λ (x : StoreView g.row.D.Denot). with_fills x (x.fills ++ Closed ∷ [])) c.self.view_is

pub returns-clause-grows : goal.returns-clause-grows
returns-clause-grows g c =
    let s = c.self.inside in
    let fills : c.note_closed.new.self.fills ≡ s.tracker.fills ++ Closed ∷ [] = c.note_closed.ensures.fills ∙ ap (λ (l : List Fill). l ++ Closed ∷ []) c.reserve.ensures.same.0 in
    let new : StoreView g.row.D.Denot = view_of s.disk s.opened.value s.journal s.head s.history.exponent s.history.items c.note_closed.new.self.fills s.sets.filled in
    subst (λ (x : StoreView g.row.D.Denot). OnlyAppends x new) c.self.view_is
    (goes_fill (view_of s.disk s.opened.value s.journal s.head s.history.exponent s.history.items s.tracker.fills s.sets.filled) new Closed refl fills refl refl refl refl)
