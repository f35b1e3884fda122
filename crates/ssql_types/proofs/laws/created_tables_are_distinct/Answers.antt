use Rattle.ssql_types.proofs.DistinctTables.{distinct_tables}
use Rattle.ssql_types.proofs.laws.created_tables_are_distinct.Goals as goal

pub returns : goal.returns
returns c = distinct_tables
