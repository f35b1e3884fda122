use Rattle.std.proofs.Common.{sym, subst}
use Rattle.live_tests.specs.Heads.{HasNames}
use Rattle.live_tests.proofs.parts.in_turns.Goals as goal

pub returns-in-Ok-clause-names : goal.returns-in-Ok-clause-names
returns-in-Ok-clause-names g c = subst (λ s. HasNames s.head) (sym c.in-Ok.ensures.first) c.in_ok-store.ensures
