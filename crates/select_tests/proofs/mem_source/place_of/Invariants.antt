use Rattle.std.proofs.Common.{◌≡◌, take, false}
use Rattle.replay_merge.specs.RowSource.{has_row_at}
use Rattle.select_tests.proofs.mem_source.place_of.Given as goal

abbrev pub invariant-loop-i : goal.invariant-loop-i
invariant-loop-i l = has_row_at l.table l.key (take l.i l.rows) ≡ false
