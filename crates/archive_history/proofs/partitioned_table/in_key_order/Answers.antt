use Rattle.std.proofs.Common.{rules}
use Rattle.archive_history.proofs.Partitioned.{sorted_by_key}
use Rattle.archive_history.proofs.partitioned_table.in_key_order.Goals as goal

pub returns-clause-sorted : goal.returns-clause-sorted
returns-clause-sorted c = rw c.from_vec.ensures (sorted_by_key _ c.sort_unstable_by_key.ensures.sorted (λ a r q k. search rules))
