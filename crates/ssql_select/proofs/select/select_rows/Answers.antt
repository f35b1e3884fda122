use Rattle.ssql_select.proofs.Selected.{if_ok, selected_told, steps_told}
use Rattle.ssql_select.proofs.select.select_rows.Goals as goal

pub returns-clause-rows : goal.returns-clause-rows
returns-clause-rows g c =
    let told = (g.R.RowSource.state c.args.source.now).history in
    if_ok c.select_days.result _ _
    (λ rows got. selected_told c.args.parts.now c.in_ok-parts.parts.items c.in_ok-parts.ensures.same told c.args.statement.now c.args.front c.in_ok-bounds.bounds rows.items c.in_ok-bounds.ensures got)
    (rw c.as_slice.ensures.value at c.select_days.ensures.rows)

pub returns-clause-steps : goal.returns-clause-steps
returns-clause-steps g c =
    let told = (g.R.RowSource.state c.args.source.now).history in
    steps_told c.args.parts.now c.in_ok-parts.parts.items c.in_ok-parts.ensures.same told c.args.statement.now c.args.front c.in_ok-bounds.bounds c.args.steps.now c.select_days.new.steps c.in_ok-bounds.ensures
    (rw c.as_slice.ensures.value at c.select_days.ensures.steps)
