use Rattle.std.proofs.Common.{◌≡◌, take}
use Rattle.calibration.specs.Calibrated.{polynomial}
use Rattle.calibration.proofs.polynomial.polynomial.Given as goal

abbrev pub invariant-loop-row : goal.invariant-loop-row
invariant-loop-row l = l.sum ≡ polynomial (take l.row-index l.rows) l.raw
