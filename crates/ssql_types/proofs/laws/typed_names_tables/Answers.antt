use Rattle.ssql_types.proofs.KnownTables.{script_tables}
use Rattle.ssql_types.proofs.laws.typed_names_tables.Goals as goal

pub returns : goal.returns
returns c = script_tables
