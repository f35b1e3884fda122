use Rattle.std.proofs.Common.{◌≡◌, ◌∙◌, List, map, ap, sym, subst}
use Rattle.std.proofs.lemmas.List.{take_all}
use Rattle.mdb_lookups.specs.NameOrder.{IsNameOrder}
use Rattle.mdb_items.specs.Texts.{Text}
use Rattle.mdb_lookups.proofs.SortedNames.{numbers_sorted, seconds}
use Rattle.mdb_lookups.proofs.name_order.name_order.Goals as goal

pub returns : goal.returns
returns g c =
    let names : List Text = map g.T.Named.name_of c.args.items.now in
    let named = c.in_ok-sorted_names.field-0.items in
    let whole : c.loop-number.order.items ≡ map (λ p. p.1) named =
    c.loop-number.invariant ∙ ap (λ ps. map (λ p. p.1) ps) (take_all c.loop-number.number-index c.deref-number-items.result.now c.loop-number-test.false ∙ c.deref-number-items.ensures.value) in
    subst (IsNameOrder names) (seconds (λ a. a.now) named ∙ sym whole) (numbers_sorted names (map (λ p. (p.0.now, p.1)) named) c.in_ok-sorted_names.ensures)
