use Rattle.asks.specs.Names.{table_number}
use Rattle.asks.proofs.RefusedExactly.{table_exactly}
use Rattle.asks.proofs.laws.unknown_table_exactly.Goals as goal

pub returns : goal.returns
returns c = λ tables request name. table_exactly (table_number tables request.table) request.table name request.from request.to
