use Rattle.std.proofs.Common.{ap, ◌∙◌}
use Rattle.ssql_types.specs.Rules.{later_places}
use Rattle.ssql_types.proofs.Lists.{column_at_goes_on, columns_end}
use Rattle.ssql_types.proofs.query.columns_at.Goals as goal

pub loop-column-preserved : goal.loop-column-preserved
loop-column-preserved c =
    column_at_goes_on c.args.columns.now c.args.places.now c.loop-column.listed c.loop-column.column-index _ c.loop-column.rest.now _ _
    c.loop-column-test.true c.loop-column.invariant c.in_ok-push.ensures.ok (c.behind-rest.ensures ∙ ap later_places c.behind.ensures)

pub returns : goal.returns
returns c = columns_end c.args.columns.now c.args.places.now c.loop-column.listed c.loop-column.column-index c.loop-column.rest.now c.loop-column-test.false c.loop-column.invariant
