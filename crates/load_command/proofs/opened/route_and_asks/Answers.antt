use Rattle.std.proofs.Common.{inl, inr}
use Rattle.std.proofs.lemmas.Result.{err_from_is_err_and}
use Rattle.load_command.proofs.opened.route_and_asks.Goals as goal

-- a route that is refused
pub returns-in_err-graph-clause-refused : goal.returns-in_err-graph-clause-refused
returns-in_err-graph-clause-refused g c =
    let p = err_from_is_err_and c.from_residual.result c.from_residual.ensures.1 in
    rw (p.1, p.2) (inl c.in_err-graph.ensures.answer)

-- a sheet that is refused
pub returns-in_err-asks-clause-refused : goal.returns-in_err-asks-clause-refused
returns-in_err-asks-clause-refused g c =
    let p = err_from_is_err_and c.from_residual-in_err-asks.result c.from_residual-in_err-asks.ensures.1 in
    rw (p.1, p.2) (inr (c.in_ok-graph.graph, c.in_ok-graph.ensures.answer, c.in_err-asks.ensures.refused))
