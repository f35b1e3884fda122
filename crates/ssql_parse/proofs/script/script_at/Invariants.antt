use Rattle.std.proofs.Common.{length}
use Rattle.ssql_parse.specs.Scripts.{IsLeft}
use Rattle.ssql_parse.proofs.script.script_at.Given as goal

abbrev pub invariant-statements : goal.invariant-statements
invariant-statements l = IsLeft l.fn.tokens l.statements l.rest

abbrev pub decreases-statements : goal.decreases-statements
decreases-statements l = length l.rest
