use Rattle.std.proofs.Common.{List, sym, ◌∙◌, ap, subst}
use Rattle.history_items.specs.declared.fills.Fill.{Fill}
use Rattle.interval_fills.specs.Steps.{freed}
use Rattle.interval_fills.proofs.Freed.{freed_bases}
use Rattle.archive_reading.specs.PartialArchive.{HoldsFills}
use Rattle.archive_store.specs.Inside.{StoreInvariant, view_of}
use Rattle.archive_store.specs.StoreView.{StoreView}
use Rattle.archive_reading.proofs.Fillable.{holds_same}
use Rattle.archive_store.proofs.SameFaults.{same_faults_freed, same_faults_kept, with_fills}
use Rattle.archive_store.proofs.store.Store.give_up.Goals as goal

pub invariant_of-self : goal.invariant_of-self
invariant_of-self g c =
    let device = g.D.Disk.device in
    let s = c.self.inside in
    let k = c.self.invariant in
    let i = c.args.interval in
    let done = same_faults_kept device s.disk s.opened.value s.journal s.head s.history.exponent s.history.items s.tracker.fills (freed i s.tracker.fills) s.sets.filled s.pending_fault k.0 (same_faults_freed s.tracker.fills i) in (
      subst (λ (l : List Fill). StoreInvariant device s.disk s.opened.value s.journal s.head s.history.exponent s.history.items l s.sets.filled s.pending_fault) (sym c.free.ensures.fills) done,
      k.1,
      k.2,
      c.free.ensures.marks s.history.exponent s.history.items k.3,
      subst (λ (l : List Fill). HoldsFills s.head s.history.exponent s.history.items l s.sets.filled) (sym c.free.ensures.fills) (holds_same s.head s.history.exponent s.history.items s.tracker.fills (freed i s.tracker.fills) s.sets.filled k.4 (λ j. freed_bases i j s.tracker.fills)),
    )

pub returns : goal.returns
returns g c =
    let s = c.self.inside in
    ap (λ (l : List Fill). view_of s.disk s.opened.value s.journal s.head s.history.exponent s.history.items l s.sets.filled) c.free.ensures.fills
    ∙ ap (λ (x : StoreView g.row.D.Denot). with_fills x (freed c.args.interval x.fills)) c.self.view_is
