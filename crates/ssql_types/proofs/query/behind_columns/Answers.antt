use Rattle.ssql_types.proofs.QueryParts.{listed_refused}
use Rattle.ssql_types.proofs.query.behind_columns.Goals as goal

pub returns-in-Listed : goal.returns-in-Listed
returns-in-Listed c = listed_refused c.args.columns.now c.in-Listed.field-0 c.args.places.now c.refused.result c.in-Listed.is c.requires c.refused.ensures
