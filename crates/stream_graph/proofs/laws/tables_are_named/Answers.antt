use Rattle.stream_graph.proofs.ReachedTables.{tables_named}
use Rattle.stream_graph.proofs.laws.tables_are_named.Goals as goal

pub returns : goal.returns
returns c = tables_named
