use Rattle.ssql_types.proofs.Parentheses.{filter_fits}
use Rattle.ssql_types.proofs.condition.typed_filter.Goals as goal

pub new-requires-in-Some : goal.new-requires-in-Some
new-requires-in-Some c =
    filter_fits c.args.names.now c.args.filter.now c.in-Some.pieces c.as_slice.result.now c.in_ok-pieces-in-Some.pieces c.in-Some.is c.as_slice.ensures c.in_ok-pieces-in-Some.ensures.same
    c.requires.condition c.requires.depth
