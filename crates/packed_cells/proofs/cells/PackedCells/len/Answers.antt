use Rattle.std.proofs.Common.{◌∙◌, List, length, ap, sym}
use Rattle.arch_types.specs.declared.cell.Cell.{Cell}
use Rattle.packed_cells.proofs.Again.{kept_cells}
use Rattle.packed_cells.proofs.cells.PackedCells.len.Goals as goal

pub returns : goal.returns
returns c =
    let kept = c.self.invariant in
    sym kept.all ∙ ap (λ (cells : List Cell). length cells) (sym (kept_cells c.self.inside.count c.self.inside.octets.items c.self.inside.last kept) ∙ c.self.view_is)
