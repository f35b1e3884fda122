use Rattle.std.proofs.Common.{◌∙◌, ◌+◌, ℤ, drop, sym, ap, subst, w64, SFits, rules}
use Rattle.std.specs.Prelude.{map}
use Rattle.std.specs.Arc.{arc_value}
use Rattle.std.proofs.lemmas.Int.{to_z-of_z}
use Rattle.shared_items.specs.Blocks.{items_of_blocks}
use Rattle.shared_items.specs.Order.{AreFrom, RiseBy}
use Rattle.shared_items.proofs.Order.{rise_second}
use Rattle.glance_board.specs.declared.contents.PublishedMark.{PublishedMark}
use Rattle.glance.specs.Asked.{is_within, late_where}
use Rattle.glance.proofs.Asked.{from_block, late_behind, late_behind_span, late_first, late_from, rise_from}
use Rattle.glance.proofs.answering.late_in.Goals as goal

pub loop-block-init : goal.loop-block-init
loop-block-init c =
    let fits : SFits w64 c.args.span.first.0 = search rules in
    let from = subst (λ (n : ℤ). AreFrom (λ (mark : PublishedMark). mark.interval.0) n c.args.marks.now (items_of_blocks (map arc_value c.blocks_from-block-items.result.now))) (to_z-of_z w64 c.args.span.first.0 fits) c.blocks_from-block-items.ensures.from in
    record {
      rest = late_from c.args.span c.args.marks.now (items_of_blocks (map arc_value c.blocks_from-block-items.result.now)) from;
      rising = rise_from c.args.span.first.0 c.args.marks.now (items_of_blocks (map arc_value c.blocks_from-block-items.result.now)) from c.blocks_from-block-items.ensures.rising;
    }

pub returns-then-begin_behind : goal.returns-then-begin_behind
returns-then-begin_behind c =
    let test = is_within c.args.span in
    let bs = c.blocks_from-block-items.result.now in
    let k = c.loop-block.block-index in
    let items = map arc_value c.items.result.now in
    let more = items_of_blocks (map arc_value (drop (k + 1) bs)) in
    let here = from_block arc_value bs k c.block-item.result items c.loop-block-test.true c.block-item.is (c.items.ensures ∙ c.deref.ensures) in
    let none = late_behind_span c.args.span items more (sym c.begin_behind.ensures ∙ c.if-begin_behind.true) (subst (RiseBy (λ (mark : PublishedMark). mark.interval.0)) here c.loop-block.invariant.rising) in
    sym (sym c.loop-block.invariant.rest ∙ ap (late_where test) here ∙ none)

pub returns-in-Some : goal.returns-in-Some
returns-in-Some c =
    let test = is_within c.args.span in
    let bs = c.blocks_from-block-items.result.now in
    let k = c.loop-block.block-index in
    let items = map arc_value c.items-in-loop-block.result.now in
    let here = from_block arc_value bs k c.block-item.result items c.loop-block-test.true c.block-item.is (c.items-in-loop-block.ensures ∙ c.deref-in-loop-block.ensures) in
    let first = late_first test items (items_of_blocks (map arc_value (drop (k + 1) bs))) c.in-Some.interval (sym c.late_among.ensures ∙ c.in-Some.is) in
    sym (sym c.loop-block.invariant.rest ∙ ap (late_where test) here ∙ first)

pub loop-block-preserved : goal.loop-block-preserved
loop-block-preserved c =
    let test = is_within c.args.span in
    let bs = c.blocks_from-block-items.result.now in
    let k = c.loop-block.block-index in
    let items = map arc_value c.items-in-loop-block.result.now in
    let more = items_of_blocks (map arc_value (drop (k + 1) bs)) in
    let here = from_block arc_value bs k c.block-item.result items c.loop-block-test.true c.block-item.is (c.items-in-loop-block.ensures ∙ c.deref-in-loop-block.ensures) in
    let behind = late_behind test items more (sym c.late_among.ensures ∙ c.in_default.is) in
    record {
      rest = sym behind ∙ ap (late_where test) (sym here) ∙ c.loop-block.invariant.rest;
      rising = rise_second (λ (mark : PublishedMark). mark.interval.0) items more (subst (RiseBy (λ (mark : PublishedMark). mark.interval.0)) here c.loop-block.invariant.rising);
    }
