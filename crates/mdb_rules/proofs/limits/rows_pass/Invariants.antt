use Rattle.std.proofs.Common.{◌≡◌, ◌+◌, take}
use Rattle.std.specs.Prelude.{sum_by}
use Rattle.mdb_items.specs.Database.{row_count}
use Rattle.mdb_rules.proofs.limits.rows_pass.Given as goal

abbrev pub invariant-loop-calibration : goal.invariant-loop-calibration
invariant-loop-calibration l = l.left + sum_by row_count (take l.calibration-index l.calibrations) ≡ l.most
