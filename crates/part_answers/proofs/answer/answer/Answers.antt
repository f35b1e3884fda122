use Rattle.std.proofs.Common.{◌∙◌, List, ap}
use Rattle.std.specs.Prelude.{flat_map}
use Rattle.std.specs.Arc.{arc_value}
use Rattle.mdb_items.specs.Database.{Database}
use Rattle.param_segments.specs.declared.plan.Part.{Part}
use Rattle.container_extract.specs.Answer.{as_asked}
use Rattle.part_answers.specs.PartCells.{answer_over_parts, cells_of_part}
use Rattle.part_answers.proofs.OverRows.{answer_over}
use Rattle.part_answers.proofs.answer.answer.Goals as goal

pub returns-clause-cells : goal.returns-clause-cells
returns-clause-cells g c =
    let request = c.args.request.now in
    let q = c.args.number in
    c.in_ok-cells.ensures.cells
    ∙ ap (λ (parts : List Part). as_asked request (flat_map (cells_of_part c.deref.result.now q request.from request.to) parts)) c.as_slice.ensures
    ∙ ap (λ (db : Database). answer_over_parts db q request c.args.plan.parts) c.deref.ensures

pub returns-clause-over : goal.returns-clause-over
returns-clause-over g c rows over =
    let request = c.args.request.now in
    let q = c.args.number in
    c.in_ok-cells.ensures.cells
    ∙ ap (λ (parts : List Part). as_asked request (flat_map (cells_of_part c.deref.result.now q request.from request.to) parts)) c.as_slice.ensures
    ∙ ap (λ (db : Database). answer_over_parts db q request c.args.plan.parts) c.deref.ensures
    ∙ answer_over (arc_value c.args.plan.mdb) q request c.args.plan.parts rows over
