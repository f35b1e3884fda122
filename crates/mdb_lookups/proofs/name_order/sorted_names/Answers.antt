use Rattle.std.proofs.Common.{◌≡◌, List, [], length, map, subst, arith}
use Rattle.std.proofs.lemmas.List.{length-map}
use Rattle.mdb_items.specs.Texts.{Text}
use Rattle.mdb_lookups.proofs.SortedKeys.{AreNumbered}
use Rattle.mdb_lookups.proofs.SortedNames.{names_sorted}
use Rattle.mdb_lookups.proofs.name_order.sorted_names.Goals as goal

pub returns : goal.returns
returns g c =
    let names : List Text = map g.T.Named.name_of c.args.items.now in
    let size : length names ≡ length c.args.items.now = length-map c.args.items.now g.T.Named.name_of in
    let full : c.loop-number.number ≡ length names = omega (arith, size) in
    let numbered = subst (λ n. AreNumbered [] names n (map (λ p. (p.0.now, p.1)) c.loop-number.named.items)) full c.loop-number.invariant in
    names_sorted names (λ p. (p.0.now, p.1)) c.loop-number.named.items c.sort_unstable.new.self.items numbered c.sort_unstable.ensures.permutation c.sort_unstable.ensures.sorted
