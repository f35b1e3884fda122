use Rattle.std.proofs.Common.{map}
use Rattle.ssql_types.specs.Faults.{stream_fault}
use Rattle.ssql_types.specs.Typed.{route_source}
use Rattle.ssql_types.specs.Faults.{listed_faults}
use Rattle.ssql_types.proofs.Joined.{hands_on}
use Rattle.ssql_types.proofs.Lists.{token_stops, token_goes_on, tokens_end}
use Rattle.ssql_types.proofs.sources.streams_at.Goals as goal

pub returns-in_err-stream : goal.returns-in_err-stream
returns-in_err-stream c =
    hands_on (λ x. (x.0, x.1.now)) c.from_residual.result _ (listed_faults (stream_fault c.args.created.now) c.args.names.now) c.args.places.now (map (route_source c.args.created.now) c.args.names.now) c.from_residual.ensures.1
    (token_stops (stream_fault c.args.created.now) (route_source c.args.created.now) c.args.names.now c.args.places.now c.loop-name.streams c.loop-name.name-index c.name-item.result c.loop-name.rest.now _
    c.loop-name-test.true c.name-item.is c.loop-name.invariant c.in_err-stream.ensures)

pub loop-name-preserved : goal.loop-name-preserved
loop-name-preserved c =
    token_goes_on (stream_fault c.args.created.now) (route_source c.args.created.now) c.args.names.now c.args.places.now c.loop-name.streams c.loop-name.name-index c.name-item.result c.loop-name.rest.now
    c.in_ok-stream.stream c.in_ok-stream.later.now _ _ c.loop-name-test.true c.name-item.is c.loop-name.invariant c.in_ok-stream.ensures c.in_ok-push.ensures.ok c.behind-rest.ensures

pub returns : goal.returns
returns c =
    tokens_end (stream_fault c.args.created.now) (route_source c.args.created.now) c.args.names.now c.args.places.now c.loop-name.streams c.loop-name.name-index c.loop-name.rest.now c.loop-name-test.false c.loop-name.invariant
