use Rattle.std.proofs.Common.{◌≡◌, drop, map}
use Rattle.std.specs.Arc.{arc_value}
use Rattle.shared_items.specs.Blocks.{items_of_blocks}
use Rattle.shared_items.specs.Order.{RiseBy}
use Rattle.glance_board.specs.declared.contents.PublishedMark.{PublishedMark}
use Rattle.glance.specs.Asked.{is_within, late_where}
use Rattle.glance.proofs.answering.late_in.Given as goal

abbrev pub invariant-loop-block : goal.invariant-loop-block
invariant-loop-block l = record {
  rest : late_where (is_within l.span) (items_of_blocks (map arc_value (drop l.block-index l.block-items))) ≡ late_where (is_within l.span) l.marks;
  rising : RiseBy (λ (mark : PublishedMark). mark.interval.0) (items_of_blocks (map arc_value (drop l.block-index l.block-items)));
}
