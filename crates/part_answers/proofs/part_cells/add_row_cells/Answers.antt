use Rattle.std.proofs.Common.{◌≡◌, ◌∙◌, ◌+◌, ◌++◌, ◌∷◌, drop, length, true, false, sym, ap, arith}
use Rattle.std.specs.Prelude.{filter}
use Rattle.std.specs.List.{filter_map}
use Rattle.std.proofs.lemmas.List.{drop_more}
use Rattle.arch_types.specs.declared.row.Row.{Row}
use Rattle.arch_types.specs.Table.{is_in_time_range}
use Rattle.arch_types.specs.Directions.{truncated}
use Rattle.part_answers.specs.PartCells.{cell_in_range, is_full}
use Rattle.part_answers.proofs.Counted.{first_in_range}
use Rattle.part_answers.proofs.Limited.{full, next_first}
use Rattle.part_answers.proofs.part_cells.add_row_cells.Goals as goal

pub loop-row-preserved : goal.loop-row-preserved
loop-row-preserved g c =
    let request = c.args.request.now in
    let rows = c.args.rows.now in
    let f = cell_in_range c.args.mdb.now c.args.number request.from request.to in
    let i = c.loop-row.row-index in
    let row = c.row-item.result in
    let left = drop (i + 1) rows in
    let cells = c.loop-row.cells in
    let step : drop i rows ≡ row ∷ left = drop_more rows i row c.loop-row-test.true ∙ ap (λ (r : Row). r ∷ left) (sym c.row-item.is) in
    let space : is_full request.limit cells ≡ false = sym c.is_full.ensures ∙ c.if-is_full.false in
    let next = next_first f request.limit cells c.add_row_cell.new.cells (drop i rows) left row (truncated request.limit (c.args.cells.now ++ filter_map f rows)) space c.in_ok-add_row_cell.ensures.cell step c.loop-row.invariant.all in
    record {
      all = next.0;
      within = next.1;
      steps = first_in_range (is_in_time_range request.from request.to) (drop i rows) left row c.loop-row.steps c.add_row_cell.new.steps (c.args.steps.now + length (filter (is_in_time_range request.from request.to) rows)) step c.loop-row.invariant.steps c.add_row_cell.ensures.steps;
    }

pub returns-in_err-add_row_cell-clause-steps : goal.returns-in_err-add_row_cell-clause-steps
returns-in_err-add_row_cell-clause-steps g c =
    let test = is_in_time_range c.args.request.now.from c.args.request.now.to in
    let rows = c.args.rows.now in
    let i = c.loop-row.row-index in
    let row = c.row-item.result in
    let left = drop (i + 1) rows in
    let step : drop i rows ≡ row ∷ left = drop_more rows i row c.loop-row-test.true ∙ ap (λ (r : Row). r ∷ left) (sym c.row-item.is) in
    omega (arith, first_in_range test (drop i rows) left row c.loop-row.steps c.add_row_cell.new.steps (c.args.steps.now + length (filter test rows)) step c.loop-row.invariant.steps c.add_row_cell.ensures.steps)

pub returns-then-is_full-clause-cells : goal.returns-then-is_full-clause-cells
returns-then-is_full-clause-cells g c =
    let request = c.args.request.now in
    let f = cell_in_range c.args.mdb.now c.args.number request.from request.to in
    let cells = c.loop-row.cells in
    let most : is_full request.limit cells ≡ true = sym c.is_full.ensures ∙ c.if-is_full.true in
    sym (full request.limit cells (filter_map f (drop c.loop-row.row-index c.args.rows.now)) most c.loop-row.invariant.within) ∙ c.loop-row.invariant.all
