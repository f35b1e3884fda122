use Rattle.std.proofs.Common.{◌∙◌, sym, ap, rules, w64, to_z, of_z, SFits}
use Rattle.std.specs.Prelude.{map}
use Rattle.std.specs.Arc.{arc_value}
use Rattle.std.proofs.lemmas.Int.{to_z-of_z}
use Rattle.shared_items.specs.Order.{with_item}
use Rattle.shared_items.proofs.Putting.{none_left, one_part, parted_here, parted_last, with_found}
use Rattle.shared_items.proofs.block.Block.with.Goals as goal

pub returns-then-len-lt-MOST-clause-items : goal.returns-then-len-lt-MOST-clause-items
returns-then-len-lt-MOST-clause-items g c =
    let items = c.self.inside.items.items in
    let n = g.T.Numbered.number_of in
    let new = arc_value c.args.item in
    let before = map arc_value c.split_at.result.0.now in
    let behind = map arc_value c.without_first-behind.result.now in
    let fits : SFits w64 c.number-number.result = search rules in
    let number = to_z-of_z w64 c.number-number.result fits ∙ c.number-number.ensures ∙ ap n c.deref.ensures in
    let found = ap (with_item n new) (sym c.self.view_is) ∙ with_found arc_value n new items c.as_slice.result.now c.as_slice-2.result.now c.split_at.result.0.now c.split_at.result.1.now c.without_first-behind.result.now
    c.place_of-place.result (to_z w64 (of_z w64 c.number-number.result)) number c.as_slice.ensures.value c.as_slice-2.ensures.value c.place_of-place.ensures.below c.place_of-place.ensures.from
    c.split_at.ensures.front c.split_at.ensures.back c.without_first-behind.ensures in
    one_part new before behind (with_item n new c.args.self.now) c.in_ok-joined.field-0 c.in_ok-joined.ensures found

pub returns-then-behind-eq0-clause-items : goal.returns-then-behind-eq0-clause-items
returns-then-behind-eq0-clause-items g c =
    let items = c.self.inside.items.items in
    let n = g.T.Numbered.number_of in
    let new = arc_value c.args.item in
    let before = map arc_value c.split_at.result.0.now in
    let behind = map arc_value c.without_first-behind.result.now in
    let fits : SFits w64 c.number-number.result = search rules in
    let number = to_z-of_z w64 c.number-number.result fits ∙ c.number-number.ensures ∙ ap n c.deref.ensures in
    let found = ap (with_item n new) (sym c.self.view_is) ∙ with_found arc_value n new items c.as_slice.result.now c.as_slice-2.result.now c.split_at.result.0.now c.split_at.result.1.now c.without_first-behind.result.now
    c.place_of-place.result (to_z w64 (of_z w64 c.number-number.result)) number c.as_slice.ensures.value c.as_slice-2.ensures.value c.place_of-place.ensures.below c.place_of-place.ensures.from
    c.split_at.ensures.front c.split_at.ensures.back c.without_first-behind.ensures in
    parted_last new before behind (with_item n new c.args.self.now) c.in_ok-first.first c.in_ok-of_one.field-0 c.in_ok-first.ensures c.in_ok-of_one.ensures
    (none_left arc_value c.without_first-behind.result.now c.if-behind-eq0.true) found

pub returns-clause-items : goal.returns-clause-items
returns-clause-items g c =
    let items = c.self.inside.items.items in
    let n = g.T.Numbered.number_of in
    let new = arc_value c.args.item in
    let before = map arc_value c.split_at.result.0.now in
    let behind = map arc_value c.without_first-behind.result.now in
    let fits : SFits w64 c.number-number.result = search rules in
    let number = to_z-of_z w64 c.number-number.result fits ∙ c.number-number.ensures ∙ ap n c.deref.ensures in
    let found = ap (with_item n new) (sym c.self.view_is) ∙ with_found arc_value n new items c.as_slice.result.now c.as_slice-2.result.now c.split_at.result.0.now c.split_at.result.1.now c.without_first-behind.result.now
    c.place_of-place.result (to_z w64 (of_z w64 c.number-number.result)) number c.as_slice.ensures.value c.as_slice-2.ensures.value c.place_of-place.ensures.below c.place_of-place.ensures.from
    c.split_at.ensures.front c.split_at.ensures.back c.without_first-behind.ensures in
    parted_here new before behind (with_item n new c.args.self.now) c.in_ok-first-2.first c.in_ok-of_items.field-0 c.in_ok-first-2.ensures c.in_ok-of_items.ensures found
