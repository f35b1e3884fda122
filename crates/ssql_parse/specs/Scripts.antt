-- What a reader of scripts answers.
use Rattle.std.specs.Prelude.{◌≡◌, ◌<◌, ◌++◌, ℕ, List, length, Result, Ok, Err}
use Rattle.ssql_tokens.specs.declared.token.Token.{Token}
use Rattle.ssql_parse.specs.declared.statement.Statement.{Statement}
use Rattle.ssql_parse.specs.declared.reading.Stop.{Stop}
use Rattle.ssql_parse.specs.declared.reading.Stop.TheVariants.{Memory, Wrong}
use Rattle.ssql_parse.specs.Grammar.{IsFirstWrong}
use Rattle.ssql_parse.specs.Statements.{ScriptResult, script_from, script_at}

-- it stopped at the first token with which no script goes on, or memory ran out
abbrev pub IsStop : List Token → Stop → Type 0
IsStop tokens Memory = Unit {0}
IsStop tokens (Wrong left) = IsFirstWrong tokens left

-- the answer is what the reader of scripts gives, unless memory ran out
abbrev pub GivesScript : Result (List Statement) Stop → List Token → Type 0
GivesScript (Ok statements) tokens = script_at tokens ≡ Ok statements
GivesScript (Err Memory) tokens = Unit {0}
GivesScript (Err (Wrong left)) tokens = script_at tokens ≡ Err left

-- statements before those of a script
abbrev pub behind_statements : List Statement → ScriptResult → ScriptResult
behind_statements front (Ok statements) = Ok (front ++ statements)
behind_statements front (Err n) = Err n

-- what is left to be read, as far as it is read
pub record IsLeft (all : List Token) (front : List Statement) (rest : List Token) : Type 0 where
  pub turns : ℕ
  pub enough : length rest < turns
  pub same : behind_statements front (script_from turns rest) ≡ script_at all
