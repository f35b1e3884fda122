use Rattle.std.proofs.Common.{subst, IfSome}
use Rattle.archive_store.specs.Installs.{IsRightFor}
use Rattle.archive_fills_tests.proofs.Growth.{stays_right}
use Rattle.archive_fills_tests.proofs.steps.fills_across.Goals as goal

pub is_installed-requires : goal.is_installed-requires
is_installed-requires g c transparent =
    stays_right c.built.new.store c.are_answered-are_answered.new.store c.in-Some.filled c.are_answered-are_answered.ensures
    (subst (λ o. IfSome o (IsRightFor c.built.new.store)) c.in-Some.is (c.built.ensures.right transparent))
