use Rattle.archive_fills_tests.proofs.calls.is_installed.Goals as goal

pub install-requires : goal.install-requires
install-requires g c transparent = c.requires transparent
