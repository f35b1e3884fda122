use Rattle.live_tests.proofs.calls.installed.Goals as goal

pub install-requires-clause-right : goal.install-requires-clause-right
install-requires-clause-right g c = c.requires.right
