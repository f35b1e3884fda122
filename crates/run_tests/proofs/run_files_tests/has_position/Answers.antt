use Rattle.run_files.proofs.RunPages.{held_on}
use Rattle.run_tests.proofs.run_files_tests.has_position.Goals as goal

pub returns : goal.returns
returns g c = λ clear. held_on g.D.Disk.device c.args.run.now c.args.disk.now c.position.new.disk c.position.ensures.looked (c.requires clear)
