use Rattle.std.proofs.Common.{◌≡◌, ◌∙◌, ◌+◌, ◌++◌, arith, length, reverse, true, false, sym}
use Rattle.std.specs.Prelude.{filter}
use Rattle.std.specs.Iterator.Adapters.{rev_source}
use Rattle.std.specs.List.{filter_map}
use Rattle.std.specs.Slice.Iter.{iter_rest}
use Rattle.arch_types.specs.Table.{is_in_time_range}
use Rattle.arch_types.specs.Directions.{truncated}
use Rattle.part_answers.specs.PartCells.{cell_in_range, is_full}
use Rattle.part_answers.proofs.Counted.{last_in_range}
use Rattle.part_answers.proofs.Limited.{full, items_done, next_last}
use Rattle.part_answers.proofs.part_cells.add_last_row_cells.Goals as goal

pub loop-row-preserved : goal.loop-row-preserved
loop-row-preserved g c =
    let request = c.args.request.now in
    let test = is_in_time_range request.from request.to in
    let f = cell_in_range c.args.mdb.now c.args.number request.from request.to in
    let cells = c.loop-row.cells in
    let rest = iter_rest (rev_source c.loop-row.row-iterator) in
    let left = iter_rest (rev_source c.next.new.self) in
    let space : is_full request.limit cells ≡ false = sym c.is_full.ensures ∙ c.if-is_full.false in
    let next = next_last f request.limit cells c.add_row_cell.new.cells rest left c.in-Some.row.now (truncated request.limit (c.args.cells.now ++ filter_map f (reverse c.args.rows.now))) space
    c.in_ok-add_row_cell.ensures.cell c.in-Some.ensures.steps c.loop-row.invariant.all in
    record {
      all = next.0;
      within = next.1;
      steps = last_in_range test rest left c.in-Some.row.now c.loop-row.steps c.add_row_cell.new.steps (c.args.steps.now + length (filter test c.args.rows.now)) c.in-Some.ensures.steps c.loop-row.invariant.steps c.add_row_cell.ensures.steps;
    }

pub returns-in_err-add_row_cell-clause-steps : goal.returns-in_err-add_row_cell-clause-steps
returns-in_err-add_row_cell-clause-steps g c =
    let test = is_in_time_range c.args.request.now.from c.args.request.now.to in
    let rest = iter_rest (rev_source c.loop-row.row-iterator) in
    let left = iter_rest (rev_source c.next.new.self) in
    omega (arith, last_in_range test rest left c.in-Some.row.now c.loop-row.steps c.add_row_cell.new.steps (c.args.steps.now + length (filter test c.args.rows.now)) c.in-Some.ensures.steps c.loop-row.invariant.steps c.add_row_cell.ensures.steps)

pub returns-then-is_full-clause-cells : goal.returns-then-is_full-clause-cells
returns-then-is_full-clause-cells g c =
    let request = c.args.request.now in
    let f = cell_in_range c.args.mdb.now c.args.number request.from request.to in
    let cells = c.loop-row.cells in
    let rest = iter_rest (rev_source c.loop-row.row-iterator) in
    let most : is_full request.limit cells ≡ true = sym c.is_full.ensures ∙ c.if-is_full.true in
    sym (full request.limit cells (filter_map f (reverse rest)) most c.loop-row.invariant.within) ∙ c.loop-row.invariant.all

pub returns-clause-cells : goal.returns-clause-cells
returns-clause-cells g c =
    let request = c.args.request.now in
    let f = cell_in_range c.args.mdb.now c.args.number request.from request.to in
    let rest = iter_rest (rev_source c.loop-row.row-iterator) in
    items_done f request.limit c.loop-row.cells rest (truncated request.limit (c.args.cells.now ++ filter_map f (reverse c.args.rows.now))) c.in-None.ensures.steps.0 c.loop-row.invariant.within c.loop-row.invariant.all
