-- The reading of named inputs, as plans.
use Rattle.std.specs.Prelude.{◌≡◌, ℕ, ◌+◌, ◌<◌, ◌≤◌, List, length, Bool, true, false, Option, Some, IfSome, IsNone, IsSomeAnd, Result, Ok, Err, ◌⊎◌}
use Rattle.std.specs.FinMap.{get}
use Rattle.refusals.specs.declared.refusal.Refusal.{Refusal}
use Rattle.refusals.specs.declared.refusal.Refusal.TheVariants.{Missing, ReadFault, Limit, OutOfMemory}
use Rattle.refusals.specs.declared.refusal.Which.{Which}
use Rattle.refusals.specs.Limits.{limit_of}
use Rattle.outer_traits.specs.Outside.{Files}
use Rattle.outer_traits.specs.declared.whole.ReadFault as fault
use Rattle.outer_traits.specs.declared.whole.ReadFault.TheVariants as faulted
use Rattle.outer_traits.specs.Whole.{IsInput, IsThere}
use Rattle.outer_traits.specs.States.{InputsState}
use Rattle.command_plans.specs.Ledger.{UsedInputs}
use Rattle.command_plans.specs.Plan.{Interruption, OfMemory, OfInputs, CommandPlan, Return, Stop, May, Question, Returned, Stopped, Interrupted, Allows, interruption_refusal}

-- whether there is an input of a name, where that is known
abbrev pub IsThereAs : Option Files → List ℕ → Bool → Type 0
IsThereAs files name true = IsThere files name
IsThereAs files name false = IfSome files (λ all. IsNone (get all name))

-- what an input of a limited length was read as
pub data InputRead (X : Type 0) : Type 0 where
  OverLimit : InputRead X
  WithinLimit : X → InputRead X

-- what an input was read as: it is longer than its limit, where it is known; or it has such octets within the limit, and was read as they are
abbrev pub IsInputAs : {X : Type 0} → Option Files → Which → (List ℕ → X) → List ℕ → InputRead X → Type 0
IsInputAs files which of name OverLimit = IfSome files (λ all. IsSomeAnd (get all name) (λ octets. limit_of which < length octets))
IsInputAs files which of name (WithinLimit x) = (octets : List ℕ) × IsInput files name octets × (length octets ≤ limit_of which) × (x ≡ of octets)

-- what an input leads to, by what it was read as
abbrev pub after_reading : {X : Type 0} → Which → ℕ → InputRead X → CommandPlan ℕ X
after_reading which sources OverLimit = Stop sources (Some (Limit which (limit_of which)))
after_reading which sources (WithinLimit x) = Return x

-- what a look for it leads to: it isn't there; it isn't opened; or it is, which gives a source, and there is no memory or a read fails; or it is read
abbrev pub after_look : {X : Type 0} → Option Files → Which → (List ℕ → X) → List ℕ → ℕ → Bool → CommandPlan ℕ X
after_look files which of name sources true =
    May OfInputs sources (May OfMemory (sources + 1) (May OfInputs (sources + 1) (Question (IsInputAs files which of name) (after_reading which (sources + 1)))))
after_look files which of name sources false = Stop sources (Some (Missing name))

-- reads a named input after so many others: Missing; then ReadFault, or the limit of its octets
abbrev pub input_plan : {X : Type 0} → Option Files → Which → (List ℕ → X) → List ℕ → ℕ → CommandPlan ℕ X
input_plan files which of name sources = May OfMemory sources (Question (IsThereAs files name) (after_look files which of name sources))

-- the fault that cuts a reading off: a call of the inputs that failed, or want of memory
abbrev pub reading_fault : Bool → Interruption
reading_fault true = OfInputs
reading_fault false = OfMemory

-- A call that reads gave what its plan gives, whatever was read before it, and the inputs gave so many sources for it.
pub record WasRead {X : Type 0} (plan : ℕ → CommandPlan ℕ X) (x : X) (sources : ℕ) (old new : InputsState) : Type 0 where
  pub allows : (before : ℕ) → Allows (plan before) (Returned x)
  pub used : UsedInputs old new sources false

-- A call that reads was refused where its plan ends, whatever was read before it, and used the inputs as far as that place.
pub record WasRefused {X : Type 0} (plan : ℕ → CommandPlan ℕ X) (refusal : Refusal) (old new : InputsState) : Type 0 where
  pub sources : ℕ
  pub allows : (before : ℕ) → Allows (plan before) (Stopped (before + sources) (Some refusal))
  pub used : UsedInputs old new sources false

-- A call that reads was cut off by a fault where its plan allows it, whatever was read before it, and used the inputs as far as that place.
pub record WasInterrupted {X : Type 0} (plan : ℕ → CommandPlan ℕ X) (refusal : Refusal) (old new : InputsState) : Type 0 where
  pub failed : Bool
  pub sources : ℕ
  pub refusal_is : refusal ≡ interruption_refusal (reading_fault failed)
  pub allows : (before : ℕ) → Allows (plan before) (Interrupted (before + sources) (reading_fault failed))
  pub used : UsedInputs old new sources failed

-- A call that reads so many inputs took a way through its plan, whatever had been read before it: it gave what the plan gives, was refused where the plan
-- ends, or a fault cut it off.
abbrev pub AnsweredByPlan : {X : Type 0} → ℕ → (ℕ → CommandPlan ℕ X) → Result X Refusal → InputsState → InputsState → Type 0
AnsweredByPlan inputs plan (Ok x) old new = WasRead plan x inputs old new
AnsweredByPlan inputs plan (Err refusal) old new = WasRefused plan refusal old new ⊎ WasInterrupted plan refusal old new

-- the refusal of a reading's fault; where there's no memory for the name that is missing, it is that
abbrev pub IsFaultRefusal : List ℕ → Which → fault.ReadFault → Refusal → Type 0
IsFaultRefusal name which faulted.Missing refusal = (refusal ≡ Missing name) ⊎ (refusal ≡ OutOfMemory)
IsFaultRefusal name which faulted.Failed refusal = refusal ≡ ReadFault
IsFaultRefusal name which faulted.TooLong refusal = refusal ≡ Limit which (limit_of which)
IsFaultRefusal name which faulted.OutOfMemory refusal = refusal ≡ OutOfMemory
