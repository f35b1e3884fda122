use Rattle.std.proofs.Common.{subst}
use Rattle.yarch_table.specs.Stored.{TableView, rows_of}
use Rattle.archive_history.specs.PartitionedTable.{HaveOwnKeys}
use Rattle.archive_history.proofs.partitioned_table.PartitionedTable.has_own_keys.Goals as goal

pub returns : goal.returns
returns c = subst (λ (t : TableView). HaveOwnKeys (rows_of t.stored)) c.self.view_is c.self.invariant.own_keys
