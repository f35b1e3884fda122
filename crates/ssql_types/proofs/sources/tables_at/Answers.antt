use Rattle.std.proofs.Common.{map}
use Rattle.ssql_types.specs.Faults.{table_fault}
use Rattle.ssql_types.specs.Typed.{known_number}
use Rattle.ssql_types.specs.Faults.{listed_faults}
use Rattle.ssql_types.proofs.Joined.{hands_on}
use Rattle.ssql_types.proofs.Lists.{token_stops, token_goes_on, tokens_end}
use Rattle.ssql_types.proofs.sources.tables_at.Goals as goal

pub returns-in_err-number : goal.returns-in_err-number
returns-in_err-number c =
    hands_on (λ x. (x.0, x.1.now)) c.from_residual.result _ (listed_faults (table_fault c.args.tables.now) c.args.names.now) c.args.places.now (map (known_number c.args.tables.now) c.args.names.now) c.from_residual.ensures.1
    (token_stops (table_fault c.args.tables.now) (known_number c.args.tables.now) c.args.names.now c.args.places.now c.loop-name.numbers c.loop-name.name-index c.name-item.result c.loop-name.rest.now _
    c.loop-name-test.true c.name-item.is c.loop-name.invariant c.in_err-number.ensures)

pub loop-name-preserved : goal.loop-name-preserved
loop-name-preserved c =
    token_goes_on (table_fault c.args.tables.now) (known_number c.args.tables.now) c.args.names.now c.args.places.now c.loop-name.numbers c.loop-name.name-index c.name-item.result c.loop-name.rest.now
    c.in_ok-number.number c.in_ok-number.later.now _ _ c.loop-name-test.true c.name-item.is c.loop-name.invariant c.in_ok-number.ensures c.in_ok-push.ensures.ok c.behind-rest.ensures

pub returns : goal.returns
returns c =
    tokens_end (table_fault c.args.tables.now) (known_number c.args.tables.now) c.args.names.now c.args.places.now c.loop-name.numbers c.loop-name.name-index c.loop-name.rest.now c.loop-name-test.false c.loop-name.invariant
