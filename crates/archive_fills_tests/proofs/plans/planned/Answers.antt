use Rattle.archive_store.proofs.ReadOn.{read_on}
use Rattle.archive_fills_tests.proofs.Growth.{goes_read}
use Rattle.archive_fills_tests.proofs.plans.planned.Goals as goal

pub returns : goal.returns
returns g c =
    let device = g.D.Disk.device in
    let old = c.args.store.now in
    let new = c.plan.new.self in
    goes_read device old new (read_on device old new c.plan.result c.plan.ensures.refused c.plan.ensures.same)
