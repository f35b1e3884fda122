use Rattle.std.proofs.Common.{◌++◌, take}
use Rattle.std.specs.List.{AllByRecursion}
use Rattle.sealed_history.specs.Inside.{IsAmongFew}
use Rattle.sealed_history.specs.SealedHistory.{counted_rows}
use Rattle.sealed_history.proofs.history.SealedHistory.passes_one.Given as goal

-- the rows so far are in intervals with few enough
abbrev pub invariant-loop-row : goal.invariant-loop-row
invariant-loop-row l = AllByRecursion (IsAmongFew l.self.exponent (counted_rows l.self ++ l.rows)) (take l.row-index l.rows)
