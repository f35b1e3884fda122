-- Sources of named inputs: opened one after the other, out together, and closed again.
use Rattle.std.specs.Prelude.{◌≡◌, ℕ, ◌+◌, ◌-◌, List, [], ◌∷◌, length, Bool, true, false, Option, Some, Err, nat_lt}
use Rattle.std.specs.List.{list_any}
use Rattle.refusals.specs.declared.refusal.Refusal.{Refusal}
use Rattle.refusals.specs.declared.refusal.Refusal.TheVariants.{Missing}
use Rattle.outer_traits.specs.Outside.{Files, IsLeftAtFirst, Stays}
use Rattle.outer_traits.specs.States.{InputsState, SourceState}
use Rattle.command_plans.specs.Inputs.{AnsweredByPlan, IsThereAs}
use Rattle.command_plans.specs.Ledger.{Counted, given_more}
use Rattle.command_plans.specs.Plan.{OfMemory, OfInputs, CommandPlan, Return, Stop, May, Question, Returned, Allows}

-- ---- opening

-- what a look for an input leads to: it isn't there; or it is, and is opened, and the plan goes on
abbrev pub opened_if_there : List ℕ → ℕ → CommandPlan ℕ (Unit {0}) → Bool → CommandPlan ℕ (Unit {0})
opened_if_there name sources next true = May OfInputs sources next
opened_if_there name sources next false = Stop sources (Some (Missing name))

-- opens named inputs in their order, after so many others: of each in turn Missing, or ReadFault
abbrev pub opening_all_plan : Option Files → List (List ℕ) → ℕ → CommandPlan ℕ (Unit {0})
opening_all_plan files [] sources = Return tt
opening_all_plan files (name ∷ names) sources =
    May OfMemory sources (Question (IsThereAs files name)
    (opened_if_there name sources (opening_all_plan files names (sources + 1))))

-- A source was given for a name, and nothing was read of it yet: it has what the files have there.
pub record IsNewSource (inputs : InputsState) (name : List ℕ) (source : SourceState) : Type 0 where
  pub left : IsLeftAtFirst inputs.files name source.left
  pub fresh : source.faults ≡ 0
  pub reliable : inputs.never_fails → source.never_fails

-- sources were given for names, in their order; a name that stands there twice has a source of its own for each
abbrev pub AreNewSources : {S : Type 0} → (S → SourceState) → InputsState → List (List ℕ) → List S → Type 0
AreNewSources state inputs [] [] = Unit {0}
AreNewSources state inputs (name ∷ names) (source ∷ sources) =
    IsNewSource inputs name (state source) × AreNewSources state inputs names sources
AreNewSources state inputs names sources = ⊥

-- Inputs gave so many sources, which are open: no call failed, and the files are as they were.
pub record GaveSources (old new : InputsState) (sources : ℕ) : Type 0 where
  pub files : new.files ≡ old.files
  pub are_open : new.open_sources ≡ given_more sources old.open_sources
  pub gave : new.given ≡ given_more sources old.given
  pub still : Stays old.faults new.faults
  pub reliable : old.never_fails → new.never_fails

-- Named inputs were opened by their plan, whatever was opened before, and their sources are out.
pub record WereOpened {S : Type 0} (state : S → SourceState) (names : List (List ℕ)) (sources : List S)
    (old new : InputsState) : Type 0 where
  pub allows : (before : ℕ) → Allows (opening_all_plan old.files names before) (Returned tt)
  pub gave : GaveSources old new (length names)
  pub are_new : AreNewSources state old names sources

-- named inputs weren't all opened for this refusal, by their plan, and those that were are closed again
abbrev pub WereNotOpened : List (List ℕ) → InputsState → InputsState → Refusal → Type 0
WereNotOpened names old new refusal =
    AnsweredByPlan {X = Unit {0}} (length names) (opening_all_plan old.files names) (Err refusal) old new

-- ---- while they are out

-- What was done to a source, by whether a read of it failed.
pub record UsedSource (old new : SourceState) (failed : Bool) : Type 0 where
  pub counted : Counted failed old.faults new.faults
  pub reliable : old.never_fails → Stays old.faults new.faults

-- to each source this was done, in their order
abbrev pub EachUsed : {S : Type 0} → (S → SourceState) → List S → List S → List Bool → Type 0
EachUsed state [] [] [] = Unit {0}
EachUsed state (old ∷ olds) (new ∷ news) (failed ∷ flags) =
    UsedSource (state old) (state new) failed × EachUsed state olds news flags
EachUsed state olds news flags = ⊥

-- whether one of them failed
abbrev pub any_failed : List Bool → Bool
any_failed flags = list_any (λ failed. failed) flags

-- What was done to sources, by whether a read of one of them failed.
pub record UsedSources {S : Type 0} (state : S → SourceState) (olds news : List S) (failed : Bool) : Type 0 where
  pub flags : List Bool
  pub each : EachUsed state olds news flags
  pub any : failed ≡ any_failed flags

-- ---- closing

-- whether a source among these has failed
abbrev pub have_failed : {S : Type 0} → (S → SourceState) → List S → Bool
have_failed state sources = list_any (λ source. nat_lt 0 (state source).faults) sources

-- Inputs took sources back: these are closed, the files are as they were, and the count of faults rose where one of the
-- sources had failed.
pub record TookSources {S : Type 0} (state : S → SourceState) (sources : List S) (old new : InputsState) : Type 0 where
  pub files : new.files ≡ old.files
  pub are_closed : new.open_sources ≡ old.open_sources - length sources
  pub gave : new.given ≡ old.given
  pub counted : Counted (have_failed state sources) old.faults new.faults
  pub reliable : old.never_fails → have_failed state sources ≡ false → new.never_fails
