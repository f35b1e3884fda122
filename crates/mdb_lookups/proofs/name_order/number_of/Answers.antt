use Rattle.std.proofs.Common.{◌≡◌, ◌∙◌, ◌<◌, ℕ, List, map, ap, sym, subst}
use Rattle.std.proofs.lemmas.List.{length-map}
use Rattle.std.specs.Cmp.Lexicographic.{same_text}
use Rattle.std.specs.Str.{bytes_eq}
use Rattle.mdb_items.specs.Texts.{Text}
use Rattle.mdb_lookups.proofs.NamesInOrder.{known_there, none_there, none_past_all, stands_there}
use Rattle.mdb_lookups.proofs.name_order.number_of.Goals as goal

pub returns-in_err-number-clause-value : goal.returns-in_err-number-clause-value
returns-in_err-number-clause-value g c =
    let names : List Text = map g.T.Named.name_of c.args.items.now in
    c.from_residual.ensures ∙ sym (none_past_all names c.args.order.now c.args.name.now c.count_below.result c.requires c.count_below.ensures c.in_err-number.ensures.lookup.0)

pub returns-then-eq-clause-value : goal.returns-then-eq-clause-value
returns-then-eq-clause-value g c =
    let names : List Text = map g.T.Named.name_of c.args.items.now in
    let same : c.name_at.result.now ≡ c.args.name.now = same_text c.name_at.result.now c.args.name.now (sym c.if-eq.true ∙ c.eq.ensures) in
    sym (stands_there names c.args.order.now c.args.name.now c.count_below.result c.requires c.count_below.ensures c.in_ok-number.field-0.now c.in_ok-number.ensures.lookup.0 c.in_ok-number.ensures.lookup.1 (sym c.name_at.ensures ∙ same))

pub returns-else-eq-clause-value : goal.returns-else-eq-clause-value
returns-else-eq-clause-value g c =
    let names : List Text = map g.T.Named.name_of c.args.items.now in
    sym (none_there names c.args.order.now c.args.name.now c.count_below.result c.requires c.count_below.ensures c.in_ok-number.field-0.now c.in_ok-number.ensures.lookup.0 c.in_ok-number.ensures.lookup.1 (ap (λ t. bytes_eq t c.args.name.now) (sym c.name_at.ensures) ∙ sym c.eq.ensures ∙ c.if-eq.false))

pub returns-then-eq-clause-within : goal.returns-then-eq-clause-within
returns-then-eq-clause-within g c =
    let names : List Text = map g.T.Named.name_of c.args.items.now in
    let n = c.in_ok-number.field-0.now in
    let known = known_there names c.args.order.now c.args.name.now c.count_below.result c.requires c.count_below.ensures n c.in_ok-number.ensures.lookup.0 c.in_ok-number.ensures.lookup.1 in
    subst (λ (count : ℕ). n < count) (length-map c.args.items.now g.T.Named.name_of) known
