use Rattle.asks.specs.declared.refusal.AskRefusal.TheVariants.{UnknownTable}
use Rattle.asks.specs.Names.{table_number}
use Rattle.asks.proofs.RefusedExactly.{whole_exactly}
use Rattle.asks.proofs.laws.replay_has_rows_exactly.Goals as goal

pub returns : goal.returns
returns c = λ tables request. whole_exactly (table_number tables request.table) (UnknownTable request.table) request.from request.to
