use Rattle.std.proofs.Common.{ℕ, Option}
use Rattle.replay_merge.specs.RowSource.{IsPositionOf}
use Rattle.archive_store.specs.ReadOn.{read_none}
use Rattle.archive_store.proofs.SourceState.{calm_as, fault_as, history_as, told_as, used_same}
use Rattle.archive_store.proofs.history_source.StoreRowSource.position.Goals as goal

pub returns-clause-told : goal.returns-clause-told
returns-clause-told g c =
    let s = c.args.self.now in
    told_as g.D.Disk.device s c.all_in_memory.ensures c.position.result (λ (found : Option ℕ) history. IsPositionOf history c.args.table c.args.key found) (rw c.source-source.ensures at c.position.ensures.told)

pub returns-clause-history : goal.returns-clause-history
returns-clause-history g c = history_as g.D.Disk.device c.args.self.now c.all_in_memory.ensures (rw c.source-source.ensures at c.position.ensures.history)

pub returns-clause-refused : goal.returns-clause-refused
returns-clause-refused g c =
    let s = c.args.self.now in
    fault_as g.D.Disk.device s c.position.result c.source-source.result c.position.new.self c.position.ensures.refused

pub returns-clause-no_fault : goal.returns-clause-no_fault
returns-clause-no_fault g c = calm_as g.D.Disk.device c.args.self.now c.position.result

pub returns-clause-source : goal.returns-clause-source
returns-clause-source g c = used_same g.D.Disk.device c.args.self.now

pub returns-clause-left : goal.returns-clause-left
returns-clause-left g c = read_none g.D.Disk.device c.args.self.now
