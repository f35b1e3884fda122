use Rattle.std.proofs.Common.{◌∙◌}
use Rattle.live_tests.proofs.Shares.{same_share}
use Rattle.live_tests.proofs.calls.gives_up.Goals as goal

pub returns-in-Ok-Some-clause-share : goal.returns-in-Ok-Some-clause-share
returns-in-Ok-Some-clause-share g c = same_share c.abandon.ensures.turn ∙ same_share c.in-Ok-Some.ensures.turn
