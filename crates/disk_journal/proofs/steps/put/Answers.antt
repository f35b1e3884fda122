use Rattle.std.proofs.Common.{length}
use Rattle.arch_disk.specs.Disk.{LeavesOnly}
use Rattle.arch_disk.specs.Steps.{torn_still}
use Rattle.arch_disk.proofs.Moments.{started, goes_on}
use Rattle.disk_journal.proofs.Appending.{Wrote}
use Rattle.disk_journal.proofs.steps.put.Given.{Over}
use Rattle.disk_journal.proofs.steps.put.Goals.{After-write_at, After-sync}
use Rattle.disk_journal.proofs.steps.put.Goals as goal

-- the write leaves the range torn, however it ends,
wrote : (g : Over) (c : After-write_at g) → LeavesOnly g.D.Disk.device c.args.disk.now c.write_at.new.self (Wrote g.D.Disk.device c.args.file c.args.at (length c.args.octets.now) c.args.disk.now)
wrote g c =
    let at_start = started g.D.Disk.device c.args.disk.now _ (λ c' left. (c', left, torn_still c.args.at (length c.args.octets.now) c.args.file c')) in
    goes_on g.D.Disk.device c.args.disk.now c.args.disk.now c.write_at.new.self _ at_start c.write_at.ensures.time c.write_at.ensures.crash

-- and the sync adds nothing
synced : (g : Over) (c : After-sync g) → LeavesOnly g.D.Disk.device c.args.disk.now c.write_at.new.self (Wrote g.D.Disk.device c.args.file c.args.at (length c.args.octets.now) c.args.disk.now) → LeavesOnly g.D.Disk.device c.args.disk.now c.sync.new.self (Wrote g.D.Disk.device c.args.file c.args.at (length c.args.octets.now) c.args.disk.now)
synced g c before = goes_on g.D.Disk.device c.args.disk.now c.write_at.new.self c.sync.new.self _ before c.sync.ensures.time (λ c' now. c.write_at.ensures.crash c' (c.sync.ensures.crash c' now))

pub returns-in_default-clause-moments : goal.returns-in_default-clause-moments
returns-in_default-clause-moments g c = wrote g (goal.at.returns-in_default-clause-moments g c).After-write_at

pub returns-in-Ok-sync-clause-moments : goal.returns-in-Ok-sync-clause-moments
returns-in-Ok-sync-clause-moments g c = let at = goal.at.returns-in-Ok-sync-clause-moments g c in synced g at.After-sync (wrote g at.After-write_at)

pub returns-in-Err-clause-moments : goal.returns-in-Err-clause-moments
returns-in-Err-clause-moments g c = let at = goal.at.returns-in-Err-clause-moments g c in synced g at.After-sync (wrote g at.After-write_at)
