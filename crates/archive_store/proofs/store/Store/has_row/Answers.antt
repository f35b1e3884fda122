use Rattle.std.proofs.Common.{◌≡◌, sym, ◌∙◌, ap, subst}
use Rattle.std.specs.Prelude.{IsSome}
use Rattle.std.specs.Option.{is_some}
use Rattle.history_items.specs.Late.{last_in}
use Rattle.archive_store.specs.StoreView.{StoreView}
use Rattle.archive_store.proofs.store.Store.has_row.Goals as goal

pub returns : goal.returns
returns g c =
    let s = c.self.inside in
    let i = c.args.interval in
    let last : c.last.result ≡ last_in s.history.exponent i s.history.items = c.last.ensures.last s.history.exponent s.history.items c.self.invariant.3 in (
      λ some. subst (λ (x : StoreView g.row.D.Denot). IsSome (last_in x.exponent i x.history)) c.self.view_is (sym (ap is_some last) ∙ sym c.is_some.ensures ∙ some),
      λ some. c.is_some.ensures ∙ ap is_some last ∙ subst (λ (x : StoreView g.row.D.Denot). IsSome (last_in x.exponent i x.history)) (sym c.self.view_is) some,
    )
