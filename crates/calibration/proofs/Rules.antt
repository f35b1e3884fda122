-- The calibration of a parameter is admitted by the rules that a mission database keeps.
use Rattle.std.proofs.Common.{◌≡◌, ◌∙◌, ◌≤◌, ℕ, List, Option, Some, None, refl, ap, sym}
use Rattle.std.specs.Prelude.{slice_get, ℤ}
use Rattle.mdb_items.specs.declared.calibration.Calibration.{Calibration}
use Rattle.mdb_items.specs.declared.calibration.Calibrator.{Calibrator}
use Rattle.mdb_items.specs.declared.calibration.Calibrator.TheVariants.{Poly, Points, Enum}
use Rattle.mdb_items.specs.declared.parameter.Parameter.{Parameter}
use Rattle.mdb_items.specs.Database.{Database, IsDatabase, calibrator_len}
use Rattle.mdb_items.specs.ParameterRows.{admits, reference_to, referenced_calibrator, calibrator_of_calibration}
use Rattle.mdb_items.specs.Structure.{IsCalibrator}
use Rattle.mdb_lookups.specs.Lookups.{calibration_numbered}
use Rattle.mdb_model.proofs.Structure.{structured}
use Rattle.calibration.specs.Admitted.{IsAdmitted, IsInWidth, KeepsRules}

keeps_rules : (t : Calibrator) → IsCalibrator t → calibrator_len t ≤ 65536 → KeepsRules (Some t)
keeps_rules (Poly rows) is few = tt
keeps_rules (Points points) is few = (is.each, is.rising)
keeps_rules (Enum rows) is few = few

rules_at : (db : Database) (n : ℕ) (o : Option Calibration) → IsDatabase db → slice_get db.calibrations n ≡ o → KeepsRules (calibrator_of_calibration o)
rules_at db n None is at = tt
rules_at db n (Some c) is at =
    let s = (structured db is).calibrations n c at in
    keeps_rules c.calibrator s.rows s.few

rules_of : (db : Database) (o : Option ℕ) → IsDatabase db → KeepsRules (calibrator_of_calibration (calibration_numbered db.calibrations o))
rules_of db None is = tt
rules_of db (Some n) is = rules_at db n (slice_get db.calibrations n) is refl

same_calibrator : (cs : List Calibration) (o : Option ℕ) → referenced_calibrator cs (reference_to o) ≡ calibrator_of_calibration (calibration_numbered cs o)
same_calibrator cs None = refl
same_calibrator cs (Some n) = refl

-- a database admits the calibration of each of its parameters for that parameter's raw numbers
pub admitted : (db : Database) (n : ℕ) (p : Parameter) (raw : ℤ) → IsDatabase db → slice_get db.parameters n ≡ Some p → IsInWidth p.coding p.bits raw → IsAdmitted (calibration_numbered db.calibrations p.calibration) raw
admitted db n p raw is at in_width = record {
  parameter = p;
  in_width = in_width;
  rules = rules_of db p.calibration is;
  admitted = ap (admits p.bits) (sym (same_calibrator db.calibrations p.calibration)) ∙ ((structured db is).parameters n p at).admitted;
}
