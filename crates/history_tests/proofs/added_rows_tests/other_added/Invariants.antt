use Rattle.std.proofs.Common.{◌≡◌}
use Rattle.history_tests.proofs.added_rows_tests.other_added.Given as goal

abbrev pub invariant-loop-place : goal.invariant-loop-place
invariant-loop-place l = l.history.tables ≡ 2
