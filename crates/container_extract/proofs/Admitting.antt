-- The rules admit the calibration of each parameter for its raw values.
use Rattle.std.proofs.Common.{◌≡◌, ◌∙◌, Option, ap, subst, sym}
use Rattle.mdb_items.specs.declared.calibration.Calibration.{Calibration}
use Rattle.mdb_items.specs.Database.{Database, IsDatabase}
use Rattle.mdb_lookups.specs.Lookups.{calibration_of, calibration_of_parameter}
use Rattle.mdb_items.proofs.Ends.{item_at}
use Rattle.calibration.specs.Admitted.{IsAdmitted}
use Rattle.calibration.proofs.Rules.{admitted}
use Rattle.container_extract.specs.declared.values.RawValue.{RawValue}
use Rattle.container_extract.specs.Values.{IsRawValue}

pub raw_admitted : (db : Database) (v : RawValue) (o : Option Calibration) → IsDatabase db → IsRawValue db v → o ≡ calibration_of db v.parameter → IsAdmitted o v.raw
raw_admitted db v o is raw o_is =
    let here = item_at db.parameters v.parameter raw.known in
    let own = o_is ∙ ap (calibration_of_parameter db.calibrations) here.1 in
    subst (λ (x : Option Calibration). IsAdmitted x v.raw) (sym own) (admitted db v.parameter here.0 v.raw is here.1 (raw.in_width here.0 here.1))
