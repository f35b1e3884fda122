use Rattle.live_tests.proofs.Shares.{same_share}
use Rattle.live_tests.proofs.calls.answered_with.Goals as goal

pub returns-in-Ok-clause-share : goal.returns-in-Ok-clause-share
returns-in-Ok-clause-share g c = same_share c.in-Ok.ensures.turn
