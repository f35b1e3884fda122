use Rattle.std.proofs.Common.{◌∙◌, ◌<◌, length, sym, ap, subst, w64, to_z, of_z, SFits, rules}
use Rattle.std.specs.Arc.{arc_value}
use Rattle.std.proofs.lemmas.Int.{to_z-of_z}
use Rattle.shared_items.specs.Order.{RiseBy}
use Rattle.shared_items.proofs.Putting.{is_within, put_done, put_kept}
use Rattle.shared_items.proofs.Searching.{has_items, rises_at}
use Rattle.shared_items.proofs.items.SharedItems.put.Goals as goal

pub with-requires-clause-some : goal.with-requires-clause-some
with-requires-clause-some g c =
    let blocks = c.self.inside.blocks.items in
    let place = c.block_for-place.result in
    let n = g.T.Numbered.number_of in
    let within = is_within arc_value blocks c.as_slice.result.now place c.as_slice.ensures.value c.block_for-place.ensures.within in
    let at = ap arc_value (sym c.index.ensures) ∙ sym c.deref.ensures in
    subst (λ b. 0 < length b) at (has_items arc_value n c.number-number.result blocks place c.index.result.now within c.self.invariant.0)

pub with-requires-clause-rising : goal.with-requires-clause-rising
with-requires-clause-rising g c =
    let blocks = c.self.inside.blocks.items in
    let place = c.block_for-place.result in
    let n = g.T.Numbered.number_of in
    let within = is_within arc_value blocks c.as_slice.result.now place c.as_slice.ensures.value c.block_for-place.ensures.within in
    let at = ap arc_value (sym c.index.ensures) ∙ sym c.deref.ensures in
    subst (RiseBy n) at (rises_at arc_value n c.number-number.result blocks place c.index.result.now within c.self.invariant)

pub invariant_of-self-2 : goal.invariant_of-self-2
invariant_of-self-2 g c =
    let blocks = c.self.inside.blocks.items in
    let place = c.block_for-place.result in
    let n = g.T.Numbered.number_of in
    let within = is_within arc_value blocks c.as_slice.result.now place c.as_slice.ensures.value c.block_for-place.ensures.within in
    let at = ap arc_value (sym c.index.ensures) ∙ sym c.deref.ensures in
    let fits : SFits w64 c.number-number.result = search rules in
    let number = to_z-of_z w64 c.number-number.result fits ∙ c.number-number.ensures in
    put_kept arc_value n c.args.item (arc_value c.in_ok-item.item) blocks c.as_slice.result.now c.replace_block.new.blocks.items place c.index.result.now (to_z w64 (of_z w64 c.number-number.result)) c.deref.result.now
    c.in_ok-first.first c.in_ok-first.second c.as_slice.ensures.value number c.in_ok-item.ensures.ok at within c.self.invariant c.block_for-place.ensures c.in_ok-first.ensures.items c.in_ok-first.ensures.some
    c.replace_block.result c.replace_block.ensures.replaced c.replace_block.ensures.refused

pub returns-clause-put : goal.returns-clause-put
returns-clause-put g c =
    let blocks = c.self.inside.blocks.items in
    let place = c.block_for-place.result in
    let n = g.T.Numbered.number_of in
    let within = is_within arc_value blocks c.as_slice.result.now place c.as_slice.ensures.value c.block_for-place.ensures.within in
    let at = ap arc_value (sym c.index.ensures) ∙ sym c.deref.ensures in
    let fits : SFits w64 c.number-number.result = search rules in
    let number = to_z-of_z w64 c.number-number.result fits ∙ c.number-number.ensures in
    put_done arc_value n c.args.item (arc_value c.in_ok-item.item) blocks c.as_slice.result.now c.replace_block.new.blocks.items place c.index.result.now (to_z w64 (of_z w64 c.number-number.result)) c.deref.result.now
    c.in_ok-first.first c.in_ok-first.second c.as_slice.ensures.value number c.in_ok-item.ensures.ok at within c.self.invariant c.block_for-place.ensures c.in_ok-first.ensures.items c.in_ok-first.ensures.some
    c.args.self.now c.self.view_is c.replace_block.result c.replace_block.ensures.replaced
