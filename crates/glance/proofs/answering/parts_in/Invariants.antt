use Rattle.std.proofs.Common.{◌≡◌, ◌++◌, drop}
use Rattle.std.specs.Prelude.{map}
use Rattle.std.specs.Arc.{arc_value}
use Rattle.shared_items.specs.Blocks.{items_of_blocks}
use Rattle.shared_items.specs.Order.{RiseBy}
use Rattle.glance_board.specs.declared.contents.PublishedMark.{PublishedMark}
use Rattle.glance.specs.Asked.{is_within, seen_part, sets_where}
use Rattle.glance.proofs.answering.parts_in.Given as goal

abbrev pub invariant-loop-block : goal.invariant-loop-block
invariant-loop-block l = record {
  rest : map seen_part l.parts.items ++ sets_where (is_within l.span) (items_of_blocks (map arc_value (drop l.block-index l.block-items))) ≡ sets_where (is_within l.span) l.marks;
  rising : RiseBy (λ (mark : PublishedMark). mark.interval.0) (items_of_blocks (map arc_value (drop l.block-index l.block-items)));
}
