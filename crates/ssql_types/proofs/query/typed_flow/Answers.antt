use Rattle.std.proofs.Common.{ℕ, List}
use Rattle.ssql_parse.specs.declared.query.Query.{Query}
use Rattle.ssql_types.specs.Rules.{TokenFault}
use Rattle.ssql_types.specs.Faults.{form_fault, flow_faults, stream_fault, columns_faults, source_faults, filter_faults, order_faults, limit_faults, query_faults}
use Rattle.ssql_types.specs.Typed.{typed_flow as meant}
use Rattle.ssql_types.proofs.Joined.{hands_on}
use Rattle.ssql_types.proofs.QueryParts.{passed, query_passed, refused_token, passed_token, refused_columns, refused_source, refused_filter, refused_order, refused_limit}
use Rattle.ssql_types.proofs.SameParts.{same_flow}
use Rattle.ssql_types.proofs.query.typed_flow.Goals as goal

-- The names of the goals are guessed: see what the check asks for.
abbrev cols : Query → List TokenFault
cols query = columns_faults form_fault query.columns

abbrev source : List (List ℕ) → Query → List TokenFault
source names query = source_faults (stream_fault names) query.source

abbrev filter : Query → List TokenFault
filter query = filter_faults query.filter

abbrev order : Query → List TokenFault
order query = order_faults form_fault query.order

abbrev limit : Query → List TokenFault
limit query = limit_faults form_fault query.limit

pub returns-in_err-rest : goal.returns-in_err-rest
returns-in_err-rest c =
    hands_on (λ x. (x.0, x.1.now)) c.from_residual.result _ (flow_faults c.args.created.now c.args.query.now) c.args.places.now (meant c.args.created.now c.args.names.now c.args.query.now) c.from_residual.ensures.1
    (refused_token (query_faults form_fault (stream_fault c.args.created.now) c.args.query.now) c.args.places.now c.behind.result.now _ c.behind.ensures (refused_columns (cols c.args.query.now) (source c.args.created.now c.args.query.now) (filter c.args.query.now) (order c.args.query.now) (limit c.args.query.now) c.behind.result.now _ c.in_err-rest.ensures))

pub returns-in_err-sources : goal.returns-in_err-sources
returns-in_err-sources c =
    hands_on (λ x. (x.0, x.1.now)) c.from_residual-in_err-sources.result _ (flow_faults c.args.created.now c.args.query.now) c.args.places.now (meant c.args.created.now c.args.names.now c.args.query.now) c.from_residual-in_err-sources.ensures.1
    (refused_token (query_faults form_fault (stream_fault c.args.created.now) c.args.query.now) c.args.places.now c.behind.result.now _ c.behind.ensures (refused_source (cols c.args.query.now) (source c.args.created.now c.args.query.now) (filter c.args.query.now) (order c.args.query.now) (limit c.args.query.now) c.behind.result.now c.in_ok-rest.rest.now _ c.in_ok-rest.ensures c.in_err-sources.ensures))

pub returns-in_err-condition : goal.returns-in_err-condition
returns-in_err-condition c =
    hands_on (λ x. (x.0, x.1.now)) c.from_residual-in_err-condition.result _ (flow_faults c.args.created.now c.args.query.now) c.args.places.now (meant c.args.created.now c.args.names.now c.args.query.now) c.from_residual-in_err-condition.ensures.1
    (refused_token (query_faults form_fault (stream_fault c.args.created.now) c.args.query.now) c.args.places.now c.behind.result.now _ c.behind.ensures (refused_filter (cols c.args.query.now) (source c.args.created.now c.args.query.now) (filter c.args.query.now) (order c.args.query.now) (limit c.args.query.now) c.behind.result.now c.in_ok-rest.rest.now c.in_ok-sources.rest.now _ c.in_ok-rest.ensures (passed (source c.args.created.now c.args.query.now) c.in_ok-rest.rest.now _ _ c.in_ok-sources.ensures) c.in_err-condition.ensures))

pub returns-in_err-rest-2 : goal.returns-in_err-rest-2
returns-in_err-rest-2 c =
    hands_on (λ x. (x.0, x.1.now)) c.from_residual-in_err-rest-2.result _ (flow_faults c.args.created.now c.args.query.now) c.args.places.now (meant c.args.created.now c.args.names.now c.args.query.now) c.from_residual-in_err-rest-2.ensures.1
    (refused_token (query_faults form_fault (stream_fault c.args.created.now) c.args.query.now) c.args.places.now c.behind.result.now _ c.behind.ensures (refused_order (cols c.args.query.now) (source c.args.created.now c.args.query.now) (filter c.args.query.now) (order c.args.query.now) (limit c.args.query.now) c.behind.result.now c.in_ok-rest.rest.now c.in_ok-sources.rest.now c.in_ok-condition.rest.now _ c.in_ok-rest.ensures (passed (source c.args.created.now c.args.query.now) c.in_ok-rest.rest.now _ _ c.in_ok-sources.ensures) (passed (filter c.args.query.now) c.in_ok-sources.rest.now _ _ c.in_ok-condition.ensures) c.in_err-rest-2.ensures))

pub returns-in_err-rest-3 : goal.returns-in_err-rest-3
returns-in_err-rest-3 c =
    hands_on (λ x. (x.0, x.1.now)) c.from_residual-in_err-rest-3.result _ (flow_faults c.args.created.now c.args.query.now) c.args.places.now (meant c.args.created.now c.args.names.now c.args.query.now) c.from_residual-in_err-rest-3.ensures.1
    (refused_token (query_faults form_fault (stream_fault c.args.created.now) c.args.query.now) c.args.places.now c.behind.result.now _ c.behind.ensures (refused_limit (cols c.args.query.now) (source c.args.created.now c.args.query.now) (filter c.args.query.now) (order c.args.query.now) (limit c.args.query.now) c.behind.result.now c.in_ok-rest.rest.now c.in_ok-sources.rest.now c.in_ok-condition.rest.now c.in_ok-rest-2.rest.now _ c.in_ok-rest.ensures (passed (source c.args.created.now c.args.query.now) c.in_ok-rest.rest.now _ _ c.in_ok-sources.ensures) (passed (filter c.args.query.now) c.in_ok-sources.rest.now _ _ c.in_ok-condition.ensures) c.in_ok-rest-2.ensures c.in_err-rest-3.ensures))

pub returns : goal.returns
returns c =
    let q = c.args.query.now in
    let t = c.args.created.now in
    let two = passed (source t q) c.in_ok-rest.rest.now _ _ c.in_ok-sources.ensures in
    let three = passed (filter q) c.in_ok-sources.rest.now _ _ c.in_ok-condition.ensures in
    let all = passed_token (query_faults form_fault (stream_fault t) q) c.args.places.now c.behind.result.now c.in_ok-rest-3.rest.now c.behind.ensures
    (query_passed (cols q) (source t q) (filter q) (order q) (limit q) c.behind.result.now c.in_ok-rest.rest.now c.in_ok-sources.rest.now c.in_ok-condition.rest.now
    c.in_ok-rest-2.rest.now c.in_ok-rest-3.rest.now c.in_ok-rest.ensures two three c.in_ok-rest-2.ensures c.in_ok-rest-3.ensures) in
    record {
      sound = all.sound;
      same = same_flow _ _ _ _ c.in_ok-sources.ensures.same c.in_ok-condition.ensures.same;
      rest = all.at;
    }
