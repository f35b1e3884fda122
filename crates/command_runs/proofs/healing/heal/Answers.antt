use Rattle.command_runs.proofs.Healed.{healed}
use Rattle.command_runs.proofs.healing.heal.Goals as goal

pub returns : goal.returns
returns g c =
    healed g.D.Disk.device c.args.store.now c.reopen.new.self c.reopen.result c.is_kept.ensures.faults c.reopen.ensures.reopened c.reopen.ensures.refused c.reopen.ensures.crash
