use Rattle.std.proofs.Common.{[], w64, SFits, rules}
use Rattle.std.proofs.lemmas.Int.{to_z-of_z}
use Rattle.archive_history.proofs.Partitioned.{partitioned_push}
use Rattle.archive_history.proofs.partitioned_table.PartitionedTable.insert.Goals as goal

pub invariant_of-self : goal.invariant_of-self
invariant_of-self c =
    let fields = c.self.inside in
    let inserted = c.in-New.ensures.inserted in
    let fits : SFits w64 c.args.row.key.time = search rules in
    let noted = simp to_z-of_z at c.add.ensures.added in
    partitioned_push fields.table c.insert.new.self fields.partitions c.add.new.self [] fields.gone c.args.row c.args.position c.self.invariant inserted.0 inserted.2 inserted.3 noted c.add.ensures.left
