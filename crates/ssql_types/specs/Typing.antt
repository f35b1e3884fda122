-- What the parts of the typing answer.
use Rattle.std.specs.Prelude.{◌≡◌, ◌⊎◌, ℕ, List, [], Option, Some, None, Result, Ok, Err}
use Rattle.ssql_types.specs.declared.not_typed.NotTyped.{NotTyped}
use Rattle.ssql_types.specs.declared.not_typed.NotTyped.TheVariants.{OutOfMemory}
use Rattle.ssql_parse.specs.Parsing.{WrittenScript}
use Rattle.ssql_types.specs.declared.place.ScriptPlace.{ScriptPlace}
use Rattle.ssql_types.specs.Rules.{TokenFault, first_sql_fault, places_behind}
use Rattle.ssql_types.specs.Faults.{script_faults}

-- Nothing is wrong with the tokens of a part, and this is what the part stands for, with the octets at which the tokens behind it begin.
pub record IsTypedPart {A : Type 0} (faults : List TokenFault) (places : List ℕ) (value : A) (part : A × List ℕ) : Type 0 where
  pub sound : first_sql_fault faults places ≡ None
  pub same : part.0 ≡ value
  pub rest : part.1 ≡ places_behind faults places

-- Nothing is wrong with these tokens, and at these octets begin those behind them.
pub record IsPassed (faults : List TokenFault) (places rest : List ℕ) : Type 0 where
  pub sound : first_sql_fault faults places ≡ None
  pub at : rest ≡ places_behind faults places

-- why a part stands for nothing: something is wrong with one of its tokens, and this is what is wrong with the first; or memory ran out
abbrev pub IsPartNotTyped : List TokenFault → List ℕ → NotTyped → Type 0
IsPartNotTyped faults places fault = (fault ≡ OutOfMemory) ⊎ (first_sql_fault faults places ≡ Some fault)

-- what is wrong with the first token of a script in a place, beside these tables, with which something is
abbrev pub typing_fault : ScriptPlace → List (List ℕ) → WrittenScript → Option NotTyped
typing_fault place tables script = first_sql_fault (script_faults place tables [] script.statements) script.places

-- why a script stands for nothing: that, or memory ran out
abbrev pub IsNotTyped : ScriptPlace → List (List ℕ) → WrittenScript → NotTyped → Type 0
IsNotTyped place tables script fault = (fault ≡ OutOfMemory) ⊎ (typing_fault place tables script ≡ Some fault)

-- What a function that types a part answers, seen by view: that nothing is wrong with these tokens and what the part stands for, or the fault.
abbrev pub TypesAs : {X A : Type 0} → (X → A × List ℕ) → Result X NotTyped → List TokenFault → List ℕ → A → Type 0
TypesAs view (Ok x) faults places value = IsTypedPart faults places value (view x)
TypesAs view (Err fault) faults places value = IsPartNotTyped faults places fault

-- What a function answers that passes over a part, seen by view: that nothing is wrong with these tokens and what is behind them, or the fault.
abbrev pub PassesOver : {X : Type 0} → (X → List ℕ) → Result X NotTyped → List TokenFault → List ℕ → Type 0
PassesOver view (Ok x) faults places = IsPassed faults places (view x)
PassesOver view (Err fault) faults places = IsPartNotTyped faults places fault
