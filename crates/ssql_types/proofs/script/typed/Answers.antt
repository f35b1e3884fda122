use Rattle.std.proofs.lemmas.Result.{err_from_is_err_and}
use Rattle.ssql_types.proofs.Statements.{statement_at_stops, statement_at_goes_on}
use Rattle.ssql_types.proofs.script.typed.Goals as goal

-- The names of the goals are guessed: see what the check asks for.
pub returns-in_err-found-clause-refused : goal.returns-in_err-found-clause-refused
returns-in_err-found-clause-refused c =
    let p = err_from_is_err_and c.from_residual.result c.from_residual.ensures.1 in
    rw (p.1, p.2)
    (statement_at_stops c.args.place c.args.tables.now c.args.names.now c.args.script.now.statements c.args.script.now.places c.loop-statement.typed c.loop-statement.created c.loop-statement.statement-index
    c.statement-item.result c.loop-statement.places.now _ (rw c.statements-statement-items.ensures.value at c.loop-statement-test.true) (rw c.statements-statement-items.ensures.value at c.statement-item.is) c.loop-statement.invariant c.in_err-found.ensures)

pub loop-statement-preserved : goal.loop-statement-preserved
loop-statement-preserved c =
    statement_at_goes_on c.args.place c.args.tables.now c.args.names.now c.args.script.now.statements c.args.script.now.places c.loop-statement.typed c.loop-statement.created c.loop-statement.statement-index
    c.statement-item.result c.loop-statement.places.now c.in_ok-found.found c.in_ok-found.rest.now _ _ _ (rw c.statements-statement-items.ensures.value at c.loop-statement-test.true) (rw c.statements-statement-items.ensures.value at c.statement-item.is) c.loop-statement.invariant c.in_ok-found.ensures
    c.in_ok-push.ensures.ok c.in_ok-add_created.ensures c.behind-places.ensures
