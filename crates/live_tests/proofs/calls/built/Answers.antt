use Rattle.std.proofs.Common.{◌∙◌, subst}
use Rattle.archive_store.specs.Tasks.{IsFillBegun}
use Rattle.live_archive.proofs.Built.{built_right}
use Rattle.live_tests.proofs.Shares.{same_share}
use Rattle.live_tests.proofs.calls.built.Goals as goal

pub returns-in-Ok-clause-right : goal.returns-in-Ok-clause-right
returns-in-Ok-clause-right g c = λ clear.
    let turn = c.in-Ok-Some.ensures.turn in
    let begun = subst (IsFillBegun g.D.Disk.device turn.before turn.after) c.in-Ok-Some.field-0-is turn.said in
    let task = c.in-Ok-Some.task in
    built_right _ g.D.Disk.device _ turn.before turn.after _ _ task c.in-Ok.filled (λ _. clear) turn.turned begun c.in-Ok.ensures

pub returns-in-Ok-clause-share : goal.returns-in-Ok-clause-share
returns-in-Ok-clause-share g c = same_share c.in-Ok-Some.ensures.turn

pub returns-in-Err-clause-share : goal.returns-in-Err-clause-share
returns-in-Err-clause-share g c = same_share c.abandon.ensures.turn ∙ same_share c.in-Ok-Some.ensures.turn
