use Rattle.std.proofs.Common.{◌≡◌, List, w64}
use Rattle.std.proofs.lemmas.Int.{to_z-of_z}
use Rattle.arch_types.specs.declared.row.Row.{Row}
use Rattle.replay_merge.specs.RowSource.{range_of_parts}
use Rattle.archive_store.specs.ReadOn.{read_none}
use Rattle.archive_store.proofs.SourceState.{calm_as, fault_as, given_as, told_as, used_same}
use Rattle.archive_store.proofs.history_source.StoreRowSource.rows_between.Goals as goal

pub returns-clause-told : goal.returns-clause-told
returns-clause-told g c =
    let s = c.args.self.now in
    let low = to_z-of_z w64 c.args.from c.ranges.from in
    let high = to_z-of_z w64 c.args.to c.ranges.to in
    told_as g.D.Disk.device s c.all_in_memory.ensures c.rows_between.result (λ (rows : List Row) history. rows ≡ range_of_parts c.args.table c.args.parts.now c.args.from c.args.to (history c.args.front))
    (rw (low, high, c.source-source.ensures) at c.rows_between.ensures.told)

pub returns-clause-given : goal.returns-clause-given
returns-clause-given g c =
    let s = c.args.self.now in
    given_as g.D.Disk.device s c.is_kept.ensures.rows c.rows_between.result (rw c.source-source.ensures at c.rows_between.ensures.given)

pub returns-clause-refused : goal.returns-clause-refused
returns-clause-refused g c =
    let s = c.args.self.now in
    fault_as g.D.Disk.device s c.rows_between.result c.source-source.result c.rows_between.new.self c.rows_between.ensures.refused

pub returns-clause-no_fault : goal.returns-clause-no_fault
returns-clause-no_fault g c = calm_as g.D.Disk.device c.args.self.now c.rows_between.result

pub returns-clause-source : goal.returns-clause-source
returns-clause-source g c = used_same g.D.Disk.device c.args.self.now

pub returns-clause-left : goal.returns-clause-left
returns-clause-left g c = read_none g.D.Disk.device c.args.self.now
