use Rattle.std.proofs.Common.{List, sym, ◌∙◌, ap, subst}
use Rattle.history_items.specs.declared.fills.Fill.{Fill}
use Rattle.archive_reading.specs.PartialArchive.{HoldsFills}
use Rattle.archive_store.specs.Inside.{StoreInvariant, view_of}
use Rattle.archive_store.specs.StoreView.{StoreView}
use Rattle.archive_reading.proofs.Fillable.{holds_same}
use Rattle.archive_store.proofs.SameFaults.{same_faults_kept, same_faults_all_freed, with_fills}
use Rattle.interval_fills.specs.Steps.{all_freed}
use Rattle.interval_fills.proofs.Freed.{all_freed_bases}
use Rattle.archive_store.proofs.Installs.{goes_settled}
use Rattle.archive_store.proofs.store.Store.settle.Goals as goal

pub invariant_of-self : goal.invariant_of-self
invariant_of-self g c =
    let device = g.D.Disk.device in
    let s = c.self.inside in
    let k = c.self.invariant in
    let done = same_faults_kept device s.disk s.opened.value s.journal s.head s.history.exponent s.history.items s.tracker.fills (all_freed s.tracker.fills) s.sets.filled s.pending_fault k.0 (same_faults_all_freed s.tracker.fills) in (
      subst (λ (f : List Fill). StoreInvariant device s.disk s.opened.value s.journal s.head s.history.exponent s.history.items f s.sets.filled s.pending_fault) (sym c.settle.ensures.fills) done,
      k.1,
      k.2,
      c.settle.ensures.marks s.history.exponent s.history.items k.3,
      subst (λ (l : List Fill). HoldsFills s.head s.history.exponent s.history.items l s.sets.filled) (sym c.settle.ensures.fills) (holds_same s.head s.history.exponent s.history.items s.tracker.fills (all_freed s.tracker.fills) s.sets.filled k.4 (λ j. all_freed_bases j s.tracker.fills)),
    )

pub returns-clause-freed : goal.returns-clause-freed
returns-clause-freed g c =
    let s = c.self.inside in
    ap (λ (l : List Fill). view_of s.disk s.opened.value s.journal s.head s.history.exponent s.history.items l s.sets.filled) c.settle.ensures.fills
    ∙ ap (λ (x : StoreView g.row.D.Denot). with_fills x (all_freed x.fills)) c.self.view_is

pub returns-clause-grows : goal.returns-clause-grows
returns-clause-grows g c =
    let s = c.self.inside in
    goes_settled c.args.self.now (view_of s.disk s.opened.value s.journal s.head s.history.exponent s.history.items c.settle.new.self.fills s.sets.filled)
    (ap (λ (l : List Fill). view_of s.disk s.opened.value s.journal s.head s.history.exponent s.history.items l s.sets.filled) c.settle.ensures.fills
    ∙ ap (λ (x : StoreView g.row.D.Denot). with_fills x (all_freed x.fills)) c.self.view_is)
