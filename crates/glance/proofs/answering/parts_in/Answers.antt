use Rattle.std.proofs.Common.{◌∙◌, ◌+◌, ◌++◌, ℤ, List, drop, sym, ap, subst, append_assoc, append-nil, w64, SFits, rules}
use Rattle.std.specs.Prelude.{map}
use Rattle.std.specs.Arc.{arc_value}
use Rattle.std.proofs.lemmas.Int.{to_z-of_z}
use Rattle.shared_items.specs.Blocks.{items_of_blocks}
use Rattle.shared_items.specs.Order.{AreFrom, RiseBy}
use Rattle.shared_items.proofs.Order.{rise_second}
use Rattle.param_segments.specs.declared.plan.Part.{Part}
use Rattle.glance_board.specs.declared.contents.PublishedMark.{PublishedMark}
use Rattle.glance.specs.Asked.{SeenSet, is_within, seen_part, sets_where}
use Rattle.glance.proofs.Asked.{from_block, rise_from, sets_append, sets_behind_span, sets_from}
use Rattle.glance.proofs.answering.parts_in.Goals as goal

pub loop-block-init : goal.loop-block-init
loop-block-init c =
    let fits : SFits w64 c.args.span.first.0 = search rules in
    let rest = items_of_blocks (map arc_value c.blocks_from-block-items.result.now) in
    let from = subst (λ (n : ℤ). AreFrom (λ (mark : PublishedMark). mark.interval.0) n c.args.marks.now rest) (to_z-of_z w64 c.args.span.first.0 fits) c.blocks_from-block-items.ensures.from in
    record {
      rest = ap (λ (l : List Part). map seen_part l ++ sets_where (is_within c.args.span) rest) c.new-parts.ensures.items ∙ sets_from c.args.span c.args.marks.now rest from;
      rising = rise_from c.args.span.first.0 c.args.marks.now rest from c.blocks_from-block-items.ensures.rising;
    }

pub returns-then-begin_behind : goal.returns-then-begin_behind
returns-then-begin_behind c =
    let test = is_within c.args.span in
    let bs = c.blocks_from-block-items.result.now in
    let k = c.loop-block.block-index in
    let items = map arc_value c.items.result.now in
    let more = items_of_blocks (map arc_value (drop (k + 1) bs)) in
    let had = map seen_part c.loop-block.parts.items in
    let here = from_block arc_value bs k c.block-item.result items c.loop-block-test.true c.block-item.is (c.items.ensures ∙ c.deref.ensures) in
    let none = ap (sets_where test) here ∙ sets_behind_span c.args.span items more (sym c.begin_behind.ensures ∙ c.if-begin_behind.true) (subst (RiseBy (λ (mark : PublishedMark). mark.interval.0)) here c.loop-block.invariant.rising) in
    ap (λ (l : List Part). map seen_part l) c.from_vec.ensures ∙ sym (append-nil had) ∙ ap (λ (l : List SeenSet). had ++ l) (sym none) ∙ c.loop-block.invariant.rest

pub loop-block-preserved : goal.loop-block-preserved
loop-block-preserved c =
    let test = is_within c.args.span in
    let bs = c.blocks_from-block-items.result.now in
    let k = c.loop-block.block-index in
    let items = map arc_value c.items-in-loop-block.result.now in
    let more = items_of_blocks (map arc_value (drop (k + 1) bs)) in
    let had = map seen_part c.loop-block.parts.items in
    let here = from_block arc_value bs k c.block-item.result items c.loop-block-test.true c.block-item.is (c.items-in-loop-block.ensures ∙ c.deref-in-loop-block.ensures) in
    record {
      rest = ap (λ (l : List SeenSet). l ++ sets_where test more) c.in_ok-add_parts.ensures ∙ append_assoc had (sets_where test items) (sets_where test more)
          ∙ ap (λ (l : List SeenSet). had ++ l) (sym (sets_append test items more) ∙ ap (sets_where test) (sym here)) ∙ c.loop-block.invariant.rest;
      rising = rise_second (λ (mark : PublishedMark). mark.interval.0) items more (subst (RiseBy (λ (mark : PublishedMark). mark.interval.0)) here c.loop-block.invariant.rising);
    }
