-- The refusals of an input that can't be read.
use Rattle.std.specs.Prelude.{◌≡◌, ℕ, List, Option, ◌⊎◌, Err}
use Rattle.refusals.specs.declared.refusal.Refusal.{Refusal}
use Rattle.refusals.specs.declared.refusal.Refusal.TheVariants.{Missing, ReadFault, OutOfMemory}
use Rattle.refusals.specs.declared.refusal.Which.{Which}
use Rattle.outer_traits.specs.Outside.{Files}
use Rattle.outer_traits.specs.declared.fault.OpenFault.{OpenFault}
use Rattle.outer_traits.specs.declared.fault.OpenFault.TheVariants as unopened
use Rattle.command_plans.specs.Inputs.{AnsweredByPlan, input_plan}
use Rattle.outer_traits.specs.States.{InputsState}

-- the refusal of an input that wasn't opened, or want of memory for the name that is missing
abbrev pub IsOpeningFault : List ℕ → OpenFault → Refusal → Type 0
IsOpeningFault name unopened.Missing refusal = (refusal ≡ Missing name) ⊎ (refusal ≡ OutOfMemory)
IsOpeningFault name unopened.Failed refusal = refusal ≡ ReadFault
IsOpeningFault name unopened.OutOfMemory refusal = refusal ≡ OutOfMemory

-- a named input wasn't read for this refusal, by its plan, whatever had been read before it
abbrev pub IsInputUnread : Option Files → Which → List ℕ → InputsState → InputsState → Refusal → Type 0
IsInputUnread files which name old new refusal = AnsweredByPlan {X = List ℕ} 1 (input_plan files which (λ octets. octets) name) (Err refusal) old new
