use Rattle.std.proofs.Common.{◌≡◌, true, subst}
use Rattle.std.specs.Prelude.{◌↔◌}
use Rattle.history_items.specs.Late.{IsLate}
use Rattle.archive_store.specs.StoreView.{StoreView}
use Rattle.archive_store.proofs.store.Store.is_late.Goals as goal

pub returns : goal.returns
returns g c =
    let s = c.self.inside in
    subst (λ (x : StoreView g.row.D.Denot). (c.is_late.result ≡ true) ↔ IsLate x.exponent c.args.interval x.history x.fills) c.self.view_is (c.is_late.ensures s.history.exponent s.history.items c.self.invariant.3)
