use Rattle.std.proofs.Common.{◌≡◌, ap, ◌∙◌}
use Rattle.yarch_table.specs.Stored.{TableView, rows_of}
use Rattle.partitions.specs.Rows.{partitions_of}
use Rattle.archive_history.proofs.partitioned_table.PartitionedTable.pruned.Goals as goal

pub returns-clause-exactly : goal.returns-clause-exactly
returns-clause-exactly c =
    let held : c.self.inside.partitions.noted ≡ partitions_of (rows_of c.args.self.now.stored) = c.self.invariant.noted ∙ ap (λ (t : TableView). partitions_of (rows_of t.stored)) c.self.view_is in
    rw held at c.pruned.ensures.exactly
