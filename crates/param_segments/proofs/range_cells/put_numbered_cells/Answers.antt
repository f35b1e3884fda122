use Rattle.std.proofs.Common.{◌∙◌, ◌++◌, List, FitsSigned, append-nil, ap, rules, sym}
use Rattle.std.specs.Int.{w64}
use Rattle.std.proofs.lemmas.Int.{to_z-of_z}
use Rattle.param_segments.specs.declared.raw_cell.RawCell.{RawCell}
use Rattle.param_segments.specs.CellRange.{segment_cells_in_range}
use Rattle.param_segments.proofs.GatheredCells.{none_asked}
use Rattle.param_segments.proofs.Passed.{no_cells_before}
use Rattle.param_segments.proofs.Starts.{at_start, segment_number}
use Rattle.param_segments.proofs.range_cells.put_numbered_cells.Goals as goal

pub returns-then-branch : goal.returns-then-branch
returns-then-branch c =
    let low : FitsSigned w64 c.args.range.from = search rules in
    let old = c.args.cells.now.items in
    let early = simp to_z-of_z at (c.in_ok-ends_before.ensures c.if-branch.true) in
    let none = none_asked c.args.range.direction c.args.range.limit (segment_cells_in_range c.args.parameter c.args.range.from c.args.range.to (segment_number c.args.octets.now c.args.number)) (no_cells_before c.args.parameter c.args.range.from c.args.range.to (segment_number c.args.octets.now c.args.number) early) in
    sym (append-nil old) ∙ ap (λ (cells : List RawCell). old ++ cells) (sym none)

pub put_range_cells-requires : goal.put_range_cells-requires
put_range_cells-requires c = (segment_number c.args.octets.now c.args.number, at_start c.args.octets.now c.args.starts.now c.args.number c.requires.spelled c.requires.within)

pub returns : goal.returns
returns c = c.put_range_cells.ensures (segment_number c.args.octets.now c.args.number) (at_start c.args.octets.now c.args.starts.now c.args.number c.requires.spelled c.requires.within)
