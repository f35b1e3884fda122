use Rattle.std.proofs.Common.{◌≡◌, ◌∙◌, ◌+◌, ◌∷◌, arith, drop, length, true, sym, ap, subst}
use Rattle.std.specs.Prelude.{filter, flat_map}
use Rattle.std.specs.List.{AllByRecursion}
use Rattle.std.proofs.lemmas.List.{drop_more}
use Rattle.arch_types.specs.Table.{is_in_time_range}
use Rattle.arch_types.specs.Directions.{truncated}
use Rattle.param_segments.specs.declared.plan.Part.{Part}
use Rattle.param_segments.specs.Plans.{HasValuesOf, rows_of_parts}
use Rattle.part_answers.specs.PartCells.{cells_of_part, is_full}
use Rattle.part_answers.proofs.Counted.{first_part}
use Rattle.part_answers.proofs.Limited.{full, next_part}
use Rattle.part_answers.proofs.part_cells.first_part_cells.Goals as goal

pub add_part_cells-requires-clause-values : goal.add_part_cells-requires-clause-values
add_part_cells-requires-clause-values g c =
    let parts = c.args.parts.now in
    let i = c.loop-part.part-index in
    let part = c.part-item.result in
    let step : drop i parts ≡ part ∷ drop (i + 1) parts = drop_more parts i part c.loop-part-test.true ∙ ap (λ (p : Part). p ∷ drop (i + 1) parts) (sym c.part-item.is) in
    (subst (AllByRecursion (HasValuesOf c.args.mdb.now)) step c.loop-part.invariant.values).0

pub loop-part-preserved : goal.loop-part-preserved
loop-part-preserved g c =
    let request = c.args.request.now in
    let test = is_in_time_range request.from request.to in
    let parts = c.args.parts.now in
    let f = cells_of_part c.args.mdb.now c.args.number request.from request.to in
    let i = c.loop-part.part-index in
    let part = c.part-item.result in
    let left = drop (i + 1) parts in
    let cells = c.loop-part.cells in
    let step : drop i parts ≡ part ∷ left = drop_more parts i part c.loop-part-test.true ∙ ap (λ (p : Part). p ∷ left) (sym c.part-item.is) in
    let next = next_part f request.limit cells c.add_part_cells.new.cells (drop i parts) left part (truncated request.limit (flat_map f parts)) c.in_ok-add_part_cells.ensures.cells step c.loop-part.invariant.all in
    record {
      all = next.0;
      within = next.1;
      values = (subst (AllByRecursion (HasValuesOf c.args.mdb.now)) step c.loop-part.invariant.values).1;
      steps = first_part test (drop i parts) left part c.loop-part.steps c.add_part_cells.new.steps (c.args.steps.now + length (filter test (rows_of_parts parts))) step c.loop-part.invariant.steps c.add_part_cells.ensures.steps;
    }

pub returns-in_err-add_part_cells-clause-steps : goal.returns-in_err-add_part_cells-clause-steps
returns-in_err-add_part_cells-clause-steps g c =
    let test = is_in_time_range c.args.request.now.from c.args.request.now.to in
    let parts = c.args.parts.now in
    let i = c.loop-part.part-index in
    let part = c.part-item.result in
    let left = drop (i + 1) parts in
    let step : drop i parts ≡ part ∷ left = drop_more parts i part c.loop-part-test.true ∙ ap (λ (p : Part). p ∷ left) (sym c.part-item.is) in
    omega (arith, first_part test (drop i parts) left part c.loop-part.steps c.add_part_cells.new.steps (c.args.steps.now + length (filter test (rows_of_parts parts))) step c.loop-part.invariant.steps c.add_part_cells.ensures.steps)

pub returns-then-is_full-clause-cells : goal.returns-then-is_full-clause-cells
returns-then-is_full-clause-cells g c =
    let request = c.args.request.now in
    let f = cells_of_part c.args.mdb.now c.args.number request.from request.to in
    let cells = c.loop-part.cells in
    let most : is_full request.limit cells ≡ true = sym c.is_full.ensures ∙ c.if-is_full.true in
    sym (full request.limit cells (flat_map f (drop c.loop-part.part-index c.args.parts.now)) most c.loop-part.invariant.within) ∙ c.loop-part.invariant.all
