use Rattle.std.proofs.Common.{sym, subst}
use Rattle.live_tests.specs.Heads.{HasNames}
use Rattle.live_tests.proofs.Glances.{shown_are_of_log}
use Rattle.live_tests.proofs.parts.with_glances.Goals as goal

pub returns-in-Ok-clause-names : goal.returns-in-Ok-clause-names
returns-in-Ok-clause-names g c = subst (λ s. HasNames s.head) (sym c.in-Ok.ensures.first) c.in_ok-store.ensures

pub returns-in-Ok-clause-glances : goal.returns-in-Ok-clause-glances
returns-in-Ok-clause-glances g c = shown_are_of_log _ c.args.readers _ c.in-Ok.ensures.shown
