-- From what the loop gives to what callers are told.
use Rattle.std.proofs.Common.{List, Result, Ok, Err}
use Rattle.std.specs.Prelude.{IfOk, IfErr}
use Rattle.ssql_tokens.specs.declared.token.Token.{Token}
use Rattle.ssql_parse.specs.declared.statement.Statement.{Statement}
use Rattle.ssql_parse.specs.declared.reading.Stop.{Stop}
use Rattle.ssql_parse.specs.declared.reading.Stop.TheVariants.{Memory, Wrong}
use Rattle.ssql_parse.specs.Grammar.{Spells}
use Rattle.ssql_parse.specs.Scripts.{IsStop, GivesScript}
use Rattle.ssql_parse.proofs.ScriptReading.{script_takes, script_stops}

pub found : (tokens : List Token) (result : Result (List Statement) Stop) → GivesScript result tokens → IfOk result (λ statements. Spells statements tokens)
found tokens (Ok statements) g = script_takes tokens statements g
found tokens (Err stop) g = tt

pub wrong : (tokens : List Token) (result : Result (List Statement) Stop) → GivesScript result tokens → IfErr result (IsStop tokens)
wrong tokens (Ok statements) g = tt
wrong tokens (Err Memory) g = tt
wrong tokens (Err (Wrong left)) g = script_stops tokens left g
