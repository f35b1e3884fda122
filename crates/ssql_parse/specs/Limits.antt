-- The greatest number of each quantity of a script that has a limit.
use Rattle.std.specs.Prelude.{ℕ}
use Rattle.ssql_parse.specs.declared.limits.ScriptQuantity.{ScriptQuantity}
use Rattle.ssql_parse.specs.declared.limits.ScriptQuantity.TheVariants.{Octets, Statements, Depth}

-- a text is no script where the quantity passes this number
abbrev pub script_limit : ScriptQuantity → ℕ
script_limit Octets = 65536
script_limit Statements = 256
script_limit Depth = 32
