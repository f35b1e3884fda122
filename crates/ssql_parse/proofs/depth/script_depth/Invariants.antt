use Rattle.std.proofs.Common.{◌≡◌, drop, max}
use Rattle.ssql_parse.specs.Depth.{script_depth}
use Rattle.ssql_parse.proofs.depth.script_depth.Given as goal

-- the greatest so far, and that of what is left, are that of all
abbrev pub invariant-loop-statement : goal.invariant-loop-statement
invariant-loop-statement l = max l.depth (script_depth (drop l.statement-index l.statements)) ≡ script_depth l.statements
