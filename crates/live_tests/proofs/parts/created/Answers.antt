use Rattle.std.proofs.Common.{sym, subst}
use Rattle.archive_store.specs.Head.{Head}
use Rattle.live_tests.specs.Heads.{HasNames}
use Rattle.live_tests.proofs.parts.created.Goals as goal

pub returns-in-Ok : goal.returns-in-Ok
returns-in-Ok g c = subst (λ (h : Head). HasNames h) (sym c.in-Ok.ensures.created.head_is) c.in-Some.ensures.names
