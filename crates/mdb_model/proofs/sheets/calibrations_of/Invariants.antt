use Rattle.std.proofs.Common.{◌≡◌, ◌-◌, drop, map, take}
use Rattle.mdb_items.specs.CalibrationRows.{calibration_fault_at, calibrations_of}
use Rattle.mdb_model.specs.Sheets.{read_calibration}
use Rattle.mdb_rules.specs.Steps.{IsInStep}
use Rattle.mdb_model.proofs.SheetLoops.{SoundBelow}
use Rattle.mdb_model.proofs.sheets.calibrations_of.Given as goal

abbrev pub invariant-loop-place : goal.invariant-loop-place
invariant-loop-place l = record {
  step : IsInStep l.calibrations;
  items : l.calibrations.items.items ≡ calibrations_of (map read_calibration (take (l.place - 1) (drop 1 l.sheet)));
  sound : SoundBelow (calibration_fault_at (map read_calibration (drop 1 l.sheet))) (l.place - 1);
}
