use Rattle.std.proofs.Common.{◌≡◌, length, sym, ◌∙◌, subst}
use Rattle.history_items.specs.Databases.{names_in}
use Rattle.archive_store.specs.StoreView.{StoreView}
use Rattle.archive_images.proofs.RowsAlone.{few_names}
use Rattle.archive_store.proofs.store.Store.name_count.Goals as goal

pub returns-clause-count : goal.returns-clause-count
returns-clause-count g c =
    let s = c.self.inside in
    subst (λ (x : StoreView g.row.D.Denot). c.containers.result ≡ length (names_in x.head.mdb x.history)) c.self.view_is
    (c.containers.ensures ∙ sym (few_names s.head.mdb s.history.items c.self.invariant.0.alone))
