use Rattle.std.proofs.Common.{◌≡◌, ◌∙◌, ◌++◌, [], List, Some, FitsSigned, append-nil, ap, length, rules, subst, sym}
use Rattle.std.specs.Int.{w64}
use Rattle.std.proofs.lemmas.Int.{to_z-of_z}
use Rattle.std.proofs.lemmas.Result.{on_ok_weaker}
use Rattle.arch_types.specs.declared.key.Key.{Key}
use Rattle.param_segments.specs.CellRange.{segment_cells_asked}
use Rattle.param_segments.specs.Cells.{cells_from, column_cells}
use Rattle.param_segments.specs.declared.raw_cell.RawCell.{RawCell}
use Rattle.param_segments.proofs.RangeCells.{IsEven, segment_asked_cells}
use Rattle.param_segments.proofs.range_cells.put_range_cells.Goals as goal

pub put_column-requires : goal.put_column-requires
put_column-requires c =
    let low : FitsSigned w64 c.args.range.from = search rules in
    let high : FitsSigned w64 c.args.range.to = search rules in
    let s = c.requires.0 in
    let r = segment_asked_cells c.args.parameter c.args.range s c.requires.1.0 in
    let read = simp to_z-of_z at (c.in_ok-read_column_in_range.ensures s c.requires.1) in
    let even : IsEven (Some c.in-Some.column) = subst IsEven (sym (sym c.in-Some.is ∙ read)) r.0 in
    ap length c.as_slice-in-Some.ensures ∙ even ∙ sym (ap length c.as_slice.ensures)

pub returns-in-None : goal.returns-in-None
returns-in-None c = λ s has.
    let low : FitsSigned w64 c.args.range.from = search rules in
    let high : FitsSigned w64 c.args.range.to = search rules in
    let r = segment_asked_cells c.args.parameter c.args.range s has.0 in
    let read = simp to_z-of_z at (c.in_ok-read_column_in_range.ensures s has) in
    let none : [] ≡ segment_cells_asked c.args.parameter c.args.range s = ap column_cells (sym c.in-None.is ∙ read) ∙ r.1 in
    sym (append-nil c.args.cells.now.items) ∙ ap (λ (cells : List RawCell). c.args.cells.now.items ++ cells) none

pub returns-in-Some : goal.returns-in-Some
returns-in-Some c = λ s has.
    let low : FitsSigned w64 c.args.range.from = search rules in
    let high : FitsSigned w64 c.args.range.to = search rules in
    let old = c.args.cells.now.items in
    let keys = c.as_slice.result.now in
    let values = c.as_slice-in-Some.result.now in
    let column = c.in-Some.column in
    let r = segment_asked_cells c.args.parameter c.args.range s has.0 in
    let read = simp to_z-of_z at (c.in_ok-read_column_in_range.ensures s has) in
    let own : cells_from keys values ≡ cells_from column.keys column.values = ap (λ (ks : List Key). cells_from ks values) c.as_slice.ensures ∙ ap (cells_from column.keys) c.as_slice-in-Some.ensures in
    let all : cells_from keys values ≡ segment_cells_asked c.args.parameter c.args.range s = own ∙ ap column_cells (sym c.in-Some.is ∙ read) ∙ r.1 in
    on_ok_weaker {P = c.put_column.new.cells.items ≡ old ++ cells_from keys values} c.put_column.result (λ is. is ∙ ap (λ (cells : List RawCell). old ++ cells) all) c.put_column.ensures
