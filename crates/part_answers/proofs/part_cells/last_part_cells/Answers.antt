use Rattle.std.proofs.Common.{◌≡◌, ◌∙◌, ◌+◌, ◌++◌, [], ◌∷◌, List, arith, length, reverse, true, sym, subst}
use Rattle.std.specs.Prelude.{filter, flat_map}
use Rattle.std.specs.Iterator.Adapters.{rev_source}
use Rattle.std.specs.List.{AllByRecursion}
use Rattle.std.specs.Slice.Iter.{iter_rest}
use Rattle.arch_types.specs.Table.{is_in_time_range}
use Rattle.arch_types.specs.Directions.{truncated}
use Rattle.param_segments.specs.declared.plan.Part.{Part}
use Rattle.param_segments.specs.Plans.{HasValuesOf, rows_of_parts}
use Rattle.part_answers.specs.PartCells.{cells_of_part, is_full}
use Rattle.part_answers.proofs.Counted.{last_part}
use Rattle.part_answers.proofs.Limited.{full, next_last_part, parts_done}
use Rattle.part_answers.proofs.part_cells.last_part_cells.Goals as goal

-- what holds of all holds of the last, and of those before it
all_but_last : (P : Part → Type 0) (left : List Part) (part : Part) → AllByRecursion P (left ++ part ∷ []) → AllByRecursion P left × P part
all_but_last P [] part all = (tt, all.0)
all_but_last P (p ∷ left) part all =
    let rest = all_but_last P left part all.1 in
    ((all.0, rest.0), rest.1)

pub add_last_part_cells-requires-clause-values : goal.add_last_part_cells-requires-clause-values
add_last_part_cells-requires-clause-values g c =
    let left = iter_rest (rev_source c.next.new.self) in
    let part = c.in-Some.part.now in
    let values = subst (AllByRecursion (HasValuesOf c.args.mdb.now)) c.in-Some.ensures.steps c.loop-part.invariant.values in
    (all_but_last (HasValuesOf c.args.mdb.now) left part values).1

pub loop-part-preserved : goal.loop-part-preserved
loop-part-preserved g c =
    let request = c.args.request.now in
    let test = is_in_time_range request.from request.to in
    let parts = c.args.parts.now in
    let f = cells_of_part c.args.mdb.now c.args.number request.from request.to in
    let part = c.in-Some.part.now in
    let cells = c.loop-part.cells in
    let rest = iter_rest (rev_source c.loop-part.part-iterator) in
    let left = iter_rest (rev_source c.next.new.self) in
    let next = next_last_part f request.limit cells c.add_last_part_cells.new.cells rest left part (truncated request.limit (reverse (flat_map f parts))) c.in_ok-add_last_part_cells.ensures.cells c.in-Some.ensures.steps c.loop-part.invariant.all in
    let values = subst (AllByRecursion (HasValuesOf c.args.mdb.now)) c.in-Some.ensures.steps c.loop-part.invariant.values in
    record {
      all = next.0;
      within = next.1;
      values = (all_but_last (HasValuesOf c.args.mdb.now) left part values).0;
      steps = last_part test rest left part c.loop-part.steps c.add_last_part_cells.new.steps (c.args.steps.now + length (filter test (rows_of_parts parts))) c.in-Some.ensures.steps c.loop-part.invariant.steps c.add_last_part_cells.ensures.steps;
    }

pub returns-in_err-add_last_part_cells-clause-steps : goal.returns-in_err-add_last_part_cells-clause-steps
returns-in_err-add_last_part_cells-clause-steps g c =
    let test = is_in_time_range c.args.request.now.from c.args.request.now.to in
    let parts = c.args.parts.now in
    let rest = iter_rest (rev_source c.loop-part.part-iterator) in
    let left = iter_rest (rev_source c.next.new.self) in
    omega (arith, last_part test rest left c.in-Some.part.now c.loop-part.steps c.add_last_part_cells.new.steps (c.args.steps.now + length (filter test (rows_of_parts parts))) c.in-Some.ensures.steps c.loop-part.invariant.steps c.add_last_part_cells.ensures.steps)

pub returns-then-is_full-clause-cells : goal.returns-then-is_full-clause-cells
returns-then-is_full-clause-cells g c =
    let request = c.args.request.now in
    let f = cells_of_part c.args.mdb.now c.args.number request.from request.to in
    let cells = c.loop-part.cells in
    let rest = iter_rest (rev_source c.loop-part.part-iterator) in
    let most : is_full request.limit cells ≡ true = sym c.is_full.ensures ∙ c.if-is_full.true in
    sym (full request.limit cells (reverse (flat_map f rest)) most c.loop-part.invariant.within) ∙ c.loop-part.invariant.all

pub returns-clause-cells : goal.returns-clause-cells
returns-clause-cells g c =
    let request = c.args.request.now in
    let f = cells_of_part c.args.mdb.now c.args.number request.from request.to in
    let rest = iter_rest (rev_source c.loop-part.part-iterator) in
    parts_done f request.limit c.loop-part.cells rest (truncated request.limit (reverse (flat_map f c.args.parts.now))) c.in-None.ensures.steps.0 c.loop-part.invariant.within c.loop-part.invariant.all
