-- Which text is a script, and where it stops being one.
use Rattle.std.specs.Prelude.{◌≡◌, ◌⊎◌, ◌<◌, ◌≤◌, ◌-◌, nat_lt, ℕ, List, length, slice_index_or, Bool, Option, Some, None, if◌then◌else◌}
use Rattle.ssql_parse.specs.declared.not_a_script.NotAScript.{NotAScript}
use Rattle.ssql_parse.specs.declared.not_a_script.NotAScript.TheVariants as refused
use Rattle.ssql_parse.specs.declared.limits.ScriptQuantity.{ScriptQuantity}
use Rattle.ssql_parse.specs.declared.limits.ScriptQuantity.TheVariants as limits
use Rattle.ssql_parse.specs.Limits.{script_limit}
use Rattle.ssql_tokens.specs.declared.token.Token.{Token}
use Rattle.ssql_tokens.specs.Tokens.{AreTokens, IsNoToken}
use Rattle.ssql_tokens.specs.Written.{AreOfTexts}
use Rattle.ssql_parse.specs.declared.statement.Statement.{Statement}
use Rattle.ssql_parse.specs.Grammar.{AreStatements, Spells, IsFirstWrong, script_tokens}
use Rattle.ssql_parse.specs.Depth.{script_depth}

-- the statements of a script, and the octet at which each of its tokens began
pub record WrittenScript : Type 0 where
  pub statements : List Statement
  pub places : List ℕ

-- The text's tokens begin at these places, and spell these statements.
pub record ReadsScript (text : List ℕ) (statements : List Statement) (places : List ℕ) : Type 0 where
  pub tokens : List Token
  pub are : AreTokens text tokens places
  pub spelled : Spells statements tokens

-- The statements are few, and none nests too deep.
pub record IsWithinLimits (statements : List Statement) : Type 0 where
  pub few : length statements ≤ script_limit limits.Statements
  pub shallow : script_depth statements ≤ script_limit limits.Depth

-- The script that a text spells, all of it within the limits.
pub record IsScriptOf (text : List ℕ) (script : WrittenScript) : Type 0 where
  pub short : length text ≤ script_limit limits.Octets
  pub reads : ReadsScript text script.statements script.places
  pub within : IsWithinLimits script.statements

-- What every script keeps: each list has an item, each condition is one, the limits are kept, some texts spell its tokens, and each of
-- these has a place.
pub record IsScript (statements : List Statement) (places : List ℕ) : Type 0 where
  pub are : AreStatements statements
  pub within : IsWithinLimits statements
  pub ended : Bool
  pub real : AreOfTexts (script_tokens ended statements)
  pub placed : length places ≡ length (script_tokens ended statements)

-- ---- rules

-- the octet of the token with so many tokens left, or the text's length where none is left
abbrev pub octet_of_left : List ℕ → List ℕ → ℕ → ℕ
octet_of_left text places left = slice_index_or places (length places - left) (length text)

-- At this octet stands the first token with which no script goes on, or the text ends too early.
pub record IsWrongToken (text : List ℕ) (at : ℕ) : Type 0 where
  pub tokens : List Token
  pub places : List ℕ
  pub are : AreTokens text tokens places
  pub left : ℕ
  pub wrong : IsFirstWrong tokens left
  pub place : at ≡ octet_of_left text places left

-- rule 1: no token begins at the octet; rule 2: no statement goes on there
abbrev pub BreaksRule : List ℕ → ℕ → ℕ → Type 0
BreaksRule text at rule = ((rule ≡ 1) × IsNoToken text at) ⊎ ((rule ≡ 2) × IsWrongToken text at)

-- ---- limits: a text's octets are asked first, then how many its statements are, then how deep they nest

-- The text spells more statements than a script may have.
pub record HasManyStatements (text : List ℕ) : Type 0 where
  pub statements : List Statement
  pub places : List ℕ
  pub reads : ReadsScript text statements places
  pub many : script_limit limits.Statements < length statements

-- The text spells no more statements than a script may have, and one of them nests too deep.
pub record NestsTooDeep (text : List ℕ) : Type 0 where
  pub statements : List Statement
  pub places : List ℕ
  pub reads : ReadsScript text statements places
  pub few : length statements ≤ script_limit limits.Statements
  pub deep : script_limit limits.Depth < script_depth statements

-- the first limit that a text passes
abbrev pub PassesScriptLimit : List ℕ → ScriptQuantity → Type 0
PassesScriptLimit text limits.Octets = script_limit limits.Octets < length text
PassesScriptLimit text limits.Statements = (length text ≤ script_limit limits.Octets) × HasManyStatements text
PassesScriptLimit text limits.Depth = (length text ≤ script_limit limits.Octets) × NestsTooDeep text

-- the first limit that statements pass
abbrev pub first_passed : List Statement → Option ScriptQuantity
first_passed statements =
    if nat_lt (script_limit limits.Statements) (length statements) then Some limits.Statements
    else (if nat_lt (script_limit limits.Depth) (script_depth statements) then Some limits.Depth else None)

-- ---- why a text is no script

-- it passes a limit, or breaks a rule at an octet; or memory ran out
abbrev pub IsNotAScript : List ℕ → NotAScript → Type 0
IsNotAScript text (refused.Limit quantity) = PassesScriptLimit text quantity
IsNotAScript text (refused.BadSql at rule) = (length text ≤ script_limit limits.Octets) × BreaksRule text at rule
IsNotAScript text refused.OutOfMemory = Unit {0}
