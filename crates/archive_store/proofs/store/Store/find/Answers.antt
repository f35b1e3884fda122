use Rattle.std.proofs.Common.{◌≡◌, ◌∙◌, ap, subst}
use Rattle.std.specs.Prelude.{IfErr, IfOk}
use Rattle.std.specs.Arc.{arc_value}
use Rattle.asks.specs.Refusals.{request_refusal}
use Rattle.mdb_items.specs.Database.{Database}
use Rattle.history_items.specs.Databases.{database_in}
use Rattle.archive_store.specs.Finding.{IsNotFound, IsRequestFound}
use Rattle.archive_store.specs.StoreView.{StoreView}
use Rattle.archive_store.proofs.store.Store.find.Goals as goal

pub returns-clause-found : goal.returns-clause-found
returns-clause-found g c =
    let same : arc_value c.self.inside.mdb ≡ database_in c.args.self.now.head.mdb c.args.self.now.history = c.self.invariant.2 ∙ ap (λ (x : StoreView g.row.D.Denot). database_in x.head.mdb x.history) c.self.view_is in
    subst (λ (db : Database). IfOk c.of.result (IsRequestFound db)) same c.of.ensures.found

pub returns-clause-refused : goal.returns-clause-refused
returns-clause-refused g c =
    let same : arc_value c.self.inside.mdb ≡ database_in c.args.self.now.head.mdb c.args.self.now.history = c.self.invariant.2 ∙ ap (λ (x : StoreView g.row.D.Denot). database_in x.head.mdb x.history) c.self.view_is in
    subst (λ (db : Database). IfErr c.of.result (IsNotFound (request_refusal db c.args.request))) same c.of.ensures.refused
