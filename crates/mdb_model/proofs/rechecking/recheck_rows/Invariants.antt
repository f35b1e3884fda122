use Rattle.std.proofs.Common.{option_copied}
use Rattle.mdb_items.specs.CalibrationRows.{row_values_of}
use Rattle.mdb_rules.specs.Steps.{IsInStep}
use Rattle.mdb_model.proofs.RowsAgain.{RowsLeft}
use Rattle.mdb_model.proofs.rechecking.recheck_rows.Given as goal

abbrev pub invariant-loop-place : goal.invariant-loop-place
invariant-loop-place l = IsInStep l.calibrations × RowsLeft l.fn.calibrations.items.items l.given.name (option_copied l.next) (row_values_of l.given.calibrator) l.calibrations.items.items l.place
