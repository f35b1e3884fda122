-- The rules admit the parameter's calibration for its raw numbers.
use Rattle.std.proofs.Common.{FitsSigned, refl, rules, subst, sym}
use Rattle.std.specs.Prelude.{ℤ}
use Rattle.std.specs.Int.{w128}
use Rattle.std.proofs.lemmas.Int.{to_z-of_z}
use Rattle.mdb_lookups.specs.Lookups.{calibration_of}
use Rattle.calibration.specs.Admitted.{IsAdmitted}
use Rattle.container_extract.proofs.Admitting.{raw_admitted}
use Rattle.container_extract.proofs.engineering.eng_of.Goals as goal

pub calibrate_parameter-requires-clause-admitted : goal.calibrate_parameter-requires-clause-admitted
calibrate_parameter-requires-clause-admitted c =
    let fits : FitsSigned w128 c.args.value.raw = search rules in
    let own = calibration_of c.args.mdb.now c.args.value.parameter in
    subst (λ (z : ℤ). IsAdmitted own z) (sym (to_z-of_z w128 c.args.value.raw fits)) (raw_admitted c.args.mdb.now c.args.value own c.is_sound.ensures c.requires refl)
