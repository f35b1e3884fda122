use Rattle.std.proofs.Common.{ℕ, List}
use Rattle.ssql_parse.specs.declared.query.Query.{Query}
use Rattle.ssql_types.specs.Rules.{TokenFault, no_fault}
use Rattle.ssql_types.specs.Faults.{table_fault, columns_faults, source_faults, filter_faults, order_faults, limit_faults, query_faults}
use Rattle.ssql_types.specs.Typed.{typed_select as meant}
use Rattle.ssql_types.proofs.Joined.{hands_on}
use Rattle.ssql_types.proofs.QueryParts.{passed, order_sound, query_passed, refused_columns, refused_source, refused_filter, refused_limit}
use Rattle.ssql_types.specs.Typing.{IsPassed}
use Rattle.ssql_types.proofs.SameParts.{same_select}
use Rattle.ssql_types.proofs.query.typed_select.Goals as goal

-- The names of the goals are guessed: see what the check asks for.
abbrev cols : Query → List TokenFault
cols query = columns_faults no_fault query.columns

abbrev source : List (List ℕ) → Query → List TokenFault
source names query = source_faults (table_fault names) query.source

abbrev filter : Query → List TokenFault
filter query = filter_faults query.filter

abbrev order : Query → List TokenFault
order query = order_faults no_fault query.order

abbrev limit : Query → List TokenFault
limit query = limit_faults no_fault query.limit

pub returns-in_err-columns : goal.returns-in_err-columns
returns-in_err-columns c =
    hands_on (λ x. (x.0, x.1.now)) c.from_residual.result _ (query_faults no_fault (table_fault c.args.tables.now) c.args.query.now) c.args.places.now (meant c.args.tables.now c.args.names.now c.args.query.now) c.from_residual.ensures.1
    (refused_columns (cols c.args.query.now) (source c.args.tables.now c.args.query.now) (filter c.args.query.now) (order c.args.query.now) (limit c.args.query.now) c.args.places.now _ c.in_err-columns.ensures)

pub returns-in_err-sources : goal.returns-in_err-sources
returns-in_err-sources c =
    hands_on (λ x. (x.0, x.1.now)) c.from_residual-in_err-sources.result _ (query_faults no_fault (table_fault c.args.tables.now) c.args.query.now) c.args.places.now (meant c.args.tables.now c.args.names.now c.args.query.now) c.from_residual-in_err-sources.ensures.1
    (refused_source (cols c.args.query.now) (source c.args.tables.now c.args.query.now) (filter c.args.query.now) (order c.args.query.now) (limit c.args.query.now) c.args.places.now c.in_ok-columns.rest.now _ (passed (cols c.args.query.now) c.args.places.now _ _ c.in_ok-columns.ensures) c.in_err-sources.ensures)

pub returns-in_err-condition : goal.returns-in_err-condition
returns-in_err-condition c =
    hands_on (λ x. (x.0, x.1.now)) c.from_residual-in_err-condition.result _ (query_faults no_fault (table_fault c.args.tables.now) c.args.query.now) c.args.places.now (meant c.args.tables.now c.args.names.now c.args.query.now) c.from_residual-in_err-condition.ensures.1
    (refused_filter (cols c.args.query.now) (source c.args.tables.now c.args.query.now) (filter c.args.query.now) (order c.args.query.now) (limit c.args.query.now) c.args.places.now c.in_ok-columns.rest.now c.in_ok-sources.rest.now _ (passed (cols c.args.query.now) c.args.places.now _ _ c.in_ok-columns.ensures) (passed (source c.args.tables.now c.args.query.now) c.in_ok-columns.rest.now _ _ c.in_ok-sources.ensures) c.in_err-condition.ensures)

pub returns-in_err-limit : goal.returns-in_err-limit
returns-in_err-limit c =
    hands_on (λ x. (x.0, x.1.now)) c.from_residual-in_err-limit.result _ (query_faults no_fault (table_fault c.args.tables.now) c.args.query.now) c.args.places.now (meant c.args.tables.now c.args.names.now c.args.query.now) c.from_residual-in_err-limit.ensures.1
    (refused_limit (cols c.args.query.now) (source c.args.tables.now c.args.query.now) (filter c.args.query.now) (order c.args.query.now) (limit c.args.query.now) c.args.places.now c.in_ok-columns.rest.now c.in_ok-sources.rest.now c.in_ok-condition.rest.now c.typed_order-direction.result.1.now _ (passed (cols c.args.query.now) c.args.places.now _ _ c.in_ok-columns.ensures) (passed (source c.args.tables.now c.args.query.now) c.in_ok-columns.rest.now _ _ c.in_ok-sources.ensures) (passed (filter c.args.query.now) c.in_ok-sources.rest.now _ _ c.in_ok-condition.ensures) (record { sound = order_sound c.args.query.now.order c.in_ok-condition.rest.now; at = c.typed_order-direction.ensures.rest }) c.in_err-limit.ensures)

pub returns : goal.returns
returns c =
    let q = c.args.query.now in
    let t = c.args.tables.now in
    let one = passed (cols q) c.args.places.now _ _ c.in_ok-columns.ensures in
    let two = passed (source t q) c.in_ok-columns.rest.now _ _ c.in_ok-sources.ensures in
    let three = passed (filter q) c.in_ok-sources.rest.now _ _ c.in_ok-condition.ensures in
    let four : IsPassed (order q) c.in_ok-condition.rest.now c.typed_order-direction.result.1.now =
    record { sound = order_sound q.order c.in_ok-condition.rest.now; at = c.typed_order-direction.ensures.rest } in
    let five = passed (limit q) c.typed_order-direction.result.1.now _ _ c.in_ok-limit.ensures in
    let all = query_passed (cols q) (source t q) (filter q) (order q) (limit q) c.args.places.now c.in_ok-columns.rest.now c.in_ok-sources.rest.now c.in_ok-condition.rest.now
    c.typed_order-direction.result.1.now c.in_ok-limit.rest.now one two three four five in
    record {
      sound = all.sound;
      same = same_select _ _ _ _ _ _ _ _ _ _ c.in_ok-columns.ensures.same c.in_ok-sources.ensures.same c.in_ok-condition.ensures.same c.typed_order-direction.ensures.direction
          c.in_ok-limit.ensures.same;
      rest = all.at;
    }
