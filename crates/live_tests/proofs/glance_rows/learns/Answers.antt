use Rattle.live_tests.proofs.Glances.{of_one_log}
use Rattle.live_tests.proofs.Shares.{same_share}
use Rattle.live_tests.proofs.glance_rows.learns.Goals as goal

pub learn-requires : goal.learn-requires
learn-requires g c = of_one_log c.args.live.now.cell.first c.in-Ok.note c.args.glance.now c.in-Ok.ensures.log c.requires.log

pub returns-in-Ok-clause-share : goal.returns-in-Ok-clause-share
returns-in-Ok-clause-share g c = same_share c.in-Ok.ensures.turn
