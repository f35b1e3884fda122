use Rattle.asks.specs.Names.{table_number}
use Rattle.asks.proofs.RefusedExactly.{table_range_exactly}
use Rattle.asks.proofs.laws.bad_replay_range_exactly.Goals as goal

pub returns : goal.returns
returns c = λ tables request low high. table_range_exactly (table_number tables request.table) request.table request.from request.to low high
