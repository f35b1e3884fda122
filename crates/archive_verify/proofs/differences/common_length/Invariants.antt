use Rattle.std.proofs.Common.{ℕ, ◌<◌, get_or}
use Rattle.arch_types.specs.declared.cell.Cell.{Cell}
use Rattle.archive_verify.specs.Differences.{IsSameRaw}
use Rattle.archive_verify.proofs.differences.common_length.Given as goal

abbrev pub invariant-loop-i : goal.invariant-loop-i
invariant-loop-i l = (k : ℕ) (d : Cell) → k < l.i → IsSameRaw (get_or l.stored k d) (get_or l.replayed k d)
