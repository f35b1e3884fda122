use Rattle.std.proofs.Common.{refl}
use Rattle.archive_store.proofs.UnreadRows.{left_by_read, rows_unread}
use Rattle.archive_store.proofs.store.Store.replay_step.Goals as goal

pub returns-clause-refused : goal.returns-clause-refused
returns-clause-refused g c = rows_unread g.D.Disk.device c.args.self.now c.args.self.now c.next.result c.source-source.result c.next.new.source c.next.ensures.refused

pub returns-clause-same : goal.returns-clause-same
returns-clause-same g c =
    let s = c.args.self.now in
    left_by_read g.D.Disk.device s s c.next.result (rows_unread g.D.Disk.device s s c.next.result c.source-source.result c.next.new.source c.next.ensures.refused) refl
