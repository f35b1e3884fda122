use Rattle.std.proofs.Common.{subst}
use Rattle.std.specs.List.Sorted.{IsSortedBy}
use Rattle.std.proofs.lemmas.List.Sorted.{IsPermutation-refl}
use Rattle.param_segments.specs.Cells.{is_cell_earlier}
use Rattle.param_segments.proofs.SegmentCells.{then_false}
use Rattle.param_segments.proofs.range_cells.sorted_range_cells.Goals as goal

pub returns-then-are_sorted : goal.returns-then-are_sorted
returns-then-are_sorted c =
    let cells = c.in_ok-cells.cells.items in
    c.in_ok-cells.ensures cells (IsPermutation-refl cells) (subst (IsSortedBy is_cell_earlier) c.deref.ensures.value (c.are_sorted.ensures c.if-are_sorted.true))

pub returns : goal.returns
returns c = c.in_ok-cells.ensures c.sort.new.self.items c.sort.ensures.permutation (λ k d low high. then_false _ _ (c.in_ok-sort.ensures.sorted k d low high))
