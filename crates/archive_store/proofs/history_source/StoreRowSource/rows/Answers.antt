use Rattle.std.proofs.Common.{◌≡◌, List}
use Rattle.arch_types.specs.declared.row.Row.{Row}
use Rattle.replay_merge.specs.RowSource.{rows_of_partition}
use Rattle.archive_store.specs.ReadOn.{read_none}
use Rattle.archive_store.proofs.SourceState.{calm_as, fault_as, given_as, history_as, told_as, used_same}
use Rattle.archive_store.proofs.history_source.StoreRowSource.rows.Goals as goal

pub returns-clause-told : goal.returns-clause-told
returns-clause-told g c =
    let s = c.args.self.now in
    told_as g.D.Disk.device s c.all_in_memory.ensures c.rows.result (λ (rows : List Row) history. rows ≡ rows_of_partition c.args.table c.args.partition.now (history c.args.front)) (rw c.source-source.ensures at c.rows.ensures.told)

pub returns-clause-given : goal.returns-clause-given
returns-clause-given g c =
    let s = c.args.self.now in
    given_as g.D.Disk.device s c.is_kept.ensures.rows c.rows.result (rw c.source-source.ensures at c.rows.ensures.given)

pub returns-clause-history : goal.returns-clause-history
returns-clause-history g c = history_as g.D.Disk.device c.args.self.now c.all_in_memory.ensures (rw c.source-source.ensures at c.rows.ensures.history)

pub returns-clause-refused : goal.returns-clause-refused
returns-clause-refused g c =
    let s = c.args.self.now in
    fault_as g.D.Disk.device s c.rows.result c.source-source.result c.rows.new.self c.rows.ensures.refused

pub returns-clause-no_fault : goal.returns-clause-no_fault
returns-clause-no_fault g c = calm_as g.D.Disk.device c.args.self.now c.rows.result

pub returns-clause-source : goal.returns-clause-source
returns-clause-source g c = used_same g.D.Disk.device c.args.self.now

pub returns-clause-left : goal.returns-clause-left
returns-clause-left g c = read_none g.D.Disk.device c.args.self.now
