use Rattle.mdb_rules.specs.Steps.{IsInStep}
use Rattle.mdb_model.proofs.RowsAgain.{CalibrationsLeft}
use Rattle.mdb_model.proofs.rechecking.rechecked_calibrations.Given as goal

abbrev pub invariant-loop-i : goal.invariant-loop-i
invariant-loop-i l = IsInStep l.calibrations × CalibrationsLeft l.given l.calibrations.items.items l.i
