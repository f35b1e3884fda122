use Rattle.std.proofs.Common.{◌≡◌, drop}
use Rattle.std.specs.Prelude.{map, nat_eq}
use lib.Pointwise.{pointwise}
use Rattle.param_segments.proofs.group.are_parameters_of.Given as goal

abbrev pub invariant-loop-i : goal.invariant-loop-i
invariant-loop-i l = pointwise nat_eq (map (λ v. v.parameter) (drop l.i l.values)) (drop l.i l.parameters) ≡ pointwise nat_eq (map (λ v. v.parameter) l.values) l.parameters
