use Rattle.std.proofs.Common.{◌≡◌, List, sym, subst}
use Rattle.std.specs.Prelude.{IfOk}
use Rattle.std.specs.Arc.{arc_value}
use Rattle.std.specs.List.{AllByRecursion}
use Rattle.mdb_items.specs.Database.{Database}
use Rattle.param_segments.specs.Plans.{ArePartsOver, HasValuesOf}
use Rattle.part_answers.specs.PartCells.{answer_over_rows}
use Rattle.glance.specs.Asked.{AreSetsOver, HasSeenValues, SeenSet}
use Rattle.glance.proofs.Asked.{parts_over, parts_values}
use Rattle.glance.proofs.answering.answer_in.Goals as goal

pub answer_uncounted-requires-clause-values : goal.answer_uncounted-requires-clause-values
answer_uncounted-requires-clause-values c =
    let db = arc_value c.args.contents.now.mdb in
    let sets = c.in_ok-parts.ensures in
    let seen = subst (λ (l : List SeenSet). AllByRecursion (HasSeenValues db) l) (sym sets) c.requires in
    subst (λ (d : Database). AllByRecursion (HasValuesOf d) c.in_ok-parts.parts) (sym c.in_ok-mdb.ensures) (parts_values db c.in_ok-parts.parts seen)

pub returns-clause-over : goal.returns-clause-over
returns-clause-over c = λ rows over.
    let db = arc_value c.args.contents.now.mdb in
    let sets = c.in_ok-parts.ensures in
    let seen = subst (λ (l : List SeenSet). AreSetsOver db l rows) (sym sets) over in
    let parts = subst (λ (d : Database). ArePartsOver d c.in_ok-parts.parts rows) (sym c.in_ok-mdb.ensures) (parts_over db c.in_ok-parts.parts rows seen) in
    subst (λ (d : Database). IfOk c.answer_uncounted.result (λ answer. answer.cells ≡ answer_over_rows d c.args.number c.args.request.now rows)) c.in_ok-mdb.ensures (c.answer_uncounted.ensures.over rows parts)
