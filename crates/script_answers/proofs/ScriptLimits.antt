-- The limits of the grammar of scripts are those of the archive.
use Rattle.std.proofs.Common.{◌≡◌, refl}
use Rattle.refusals.specs.Limits.{limit_of}
use Rattle.ssql_parse.specs.declared.limits.ScriptQuantity.{ScriptQuantity}
use Rattle.ssql_parse.specs.declared.limits.ScriptQuantity.TheVariants.{Octets, Statements, Depth}
use Rattle.ssql_parse.specs.Limits.{script_limit}
use Rattle.script_answers.specs.Scripts.{limit_of_script}

pub limits_agree : (quantity : ScriptQuantity) → script_limit quantity ≡ limit_of (limit_of_script quantity)
limits_agree Octets = refl
limits_agree Statements = refl
limits_agree Depth = refl
