-- Scripts that a command takes: how they are read, and what their text stands for.
use Rattle.std.specs.Prelude.{◌≡◌, ◌≢◌, ◌⊎◌, ℕ, List, [], Option, Some, None, option_map, Result, Ok, Err}
use Rattle.refusals.specs.declared.refusal.Refusal.{Refusal}
use Rattle.refusals.specs.declared.refusal.Refusal.TheVariants.{BadSql, UnknownTable, Limit, OutOfMemory}
use Rattle.refusals.specs.declared.refusal.Which.{Which}
use Rattle.refusals.specs.declared.refusal.Which.TheVariants.{ScriptOctets, Statements, SqlDepth}
use Rattle.refusals.specs.Limits.{limit_of}
use Rattle.outer_traits.specs.Outside.{Files}
use Rattle.command_plans.specs.Plan.{OfMemory, CommandPlan, Return, Stop, May, Question}
use Rattle.command_plans.specs.Inputs.{input_plan}
use Rattle.ssql_parse.specs.declared.limits.ScriptQuantity.{ScriptQuantity}
use Rattle.ssql_parse.specs.declared.limits.ScriptQuantity.TheVariants as quantity
use Rattle.ssql_parse.specs.declared.not_a_script.NotAScript.{NotAScript}
use Rattle.ssql_parse.specs.declared.not_a_script.NotAScript.TheVariants as unread
use Rattle.ssql_parse.specs.Limits.{script_limit}
use Rattle.ssql_parse.specs.Parsing.{IsNotAScript, IsScriptOf, WrittenScript}
use Rattle.ssql_types.specs.declared.not_typed.NotTyped.{NotTyped}
use Rattle.ssql_types.specs.declared.not_typed.NotTyped.TheVariants as untyped
use Rattle.ssql_types.specs.declared.place.ScriptPlace.{ScriptPlace}
use Rattle.ssql_types.specs.declared.statement.TypedStatement.{TypedStatement}
use Rattle.ssql_types.specs.Typed.{typed_script}
use Rattle.ssql_types.specs.Typing.{typing_fault}

-- reads the octets of a script
abbrev pub script_octets_plan : Option Files → List ℕ → ℕ → CommandPlan ℕ (List ℕ)
script_octets_plan files name sources = input_plan files ScriptOctets (λ octets. octets) name sources

-- ---- refusals

-- the limit of the archive on a quantity of a script
abbrev pub limit_of_script : ScriptQuantity → Which
limit_of_script quantity.Octets = ScriptOctets
limit_of_script quantity.Statements = Statements
limit_of_script quantity.Depth = SqlDepth

-- the limits of the grammar are those of the archive
abbrev pub ScriptLimitsAgree : Type 0
ScriptLimitsAgree = (quantity : ScriptQuantity) → script_limit quantity ≡ limit_of (limit_of_script quantity)

-- the refusal of a text that is no script
abbrev pub refusal_of_text : NotAScript → Refusal
refusal_of_text (unread.Limit quantity) = Limit (limit_of_script quantity) (limit_of (limit_of_script quantity))
refusal_of_text (unread.BadSql at rule) = BadSql at rule
refusal_of_text unread.OutOfMemory = OutOfMemory

-- the refusal of a script with a token with which something is wrong
abbrev pub refusal_of_typing : NotTyped → Refusal
refusal_of_typing (untyped.BadSql at rule) = BadSql at rule
refusal_of_typing (untyped.UnknownTable name) = UnknownTable name
refusal_of_typing untyped.OutOfMemory = OutOfMemory

-- why a text is refused: it passes a limit, or breaks rule 1 or 2 at an octet; or memory ran out
abbrev pub IsParseRefusal : List ℕ → Refusal → Type 0
IsParseRefusal text refusal = (why : NotAScript) × IsNotAScript text why × (refusal ≡ refusal_of_text why)

-- the refusal of a script in a place, beside these tables, if something is wrong with one of its tokens
abbrev pub script_refusal : ScriptPlace → List (List ℕ) → WrittenScript → Option Refusal
script_refusal place tables script = option_map refusal_of_typing (typing_fault place tables script)

-- ---- answers

-- An answer about a text as a script in a place, beside tables and packet names: it spells a script in which nothing
-- is wrong, and these are its statements; or why it is refused: it spells no script or passes a limit, or this is the
-- refusal of the first token with which something is wrong.
abbrev pub IsScriptAnswer : ScriptPlace → List (List ℕ) → List (List ℕ) → List ℕ → Result (List TypedStatement) Refusal
    → Type 0
IsScriptAnswer place tables names text (Ok typed) =
    (script : WrittenScript) × IsScriptOf text script × (typing_fault place tables script ≡ None)
    × (typed ≡ typed_script tables names [] script.statements)
IsScriptAnswer place tables names text (Err refusal) =
    (IsParseRefusal text refusal × (refusal ≢ OutOfMemory))
    ⊎ ((script : WrittenScript) × IsScriptOf text script × (script_refusal place tables script ≡ Some refusal))

-- what was asked is answered, or memory is wanting
abbrev pub OrNoMemory : {X : Type 0} → (Result X Refusal → Type 0) → Result X Refusal → Type 0
OrNoMemory IsAnswer (Ok x) = IsAnswer (Ok x)
OrNoMemory IsAnswer (Err refusal) = (refusal ≡ OutOfMemory) ⊎ IsAnswer (Err refusal)

-- what an answer leads to: it is given, or its refusal ends the command
abbrev pub after_answer : {S X : Type 0} → S → Result X Refusal → CommandPlan S X
after_answer s (Ok x) = Return x
after_answer s (Err refusal) = Stop s (Some refusal)

-- gives the statements of a text as a script in a place: BadSql of its first wrong token, UnknownTable, or a limit;
-- memory may be wanting
abbrev pub script_plan : {S : Type 0} → S → ScriptPlace → List (List ℕ) → List (List ℕ) → List ℕ
    → CommandPlan S (List TypedStatement)
script_plan s place tables names text =
    May OfMemory s (Question (IsScriptAnswer place tables names text) (after_answer s))
