use Rattle.std.proofs.Common.{◌≡◌, map}
use Rattle.mdb_model.proofs.RowsAgain.{ParametersLeft}
use Rattle.mdb_model.proofs.rechecking.rechecked_parameters.Given as goal

abbrev pub invariant-loop-p : goal.invariant-loop-p
invariant-loop-p l = (l.parameters.names ≡ map (λ x. x.name) l.parameters.items.items) × ParametersLeft l.calibrations l.given l.parameters.items.items l.p-index
