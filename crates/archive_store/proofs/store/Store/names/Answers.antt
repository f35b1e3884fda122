use Rattle.std.proofs.Common.{◌≡◌, sym, ◌∙◌, subst}
use Rattle.history_items.specs.Databases.{names_in}
use Rattle.archive_store.specs.StoreView.{StoreView}
use Rattle.archive_images.proofs.RowsAlone.{names_of_head}
use Rattle.archive_store.proofs.store.Store.names.Goals as goal

pub returns-in-Ok-clause-names : goal.returns-in-Ok-clause-names
returns-in-Ok-clause-names g c =
    let s = c.self.inside in
    subst (λ (x : StoreView g.row.D.Denot). c.in-Ok.names ≡ names_in x.head.mdb x.history) c.self.view_is
    (c.in-Ok.ensures ∙ sym (names_of_head s.head.mdb s.history.items c.self.invariant.0.alone))
