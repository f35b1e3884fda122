-- How a command checks an archive that was opened, and prints a text of it.
use Rattle.std.specs.Prelude.{◌≡◌, ◌⊎◌, ℕ, List, Option, Some, None, IsSomeAnd}
use Rattle.refusals.specs.declared.refusal.Refusal.{Refusal}
use Rattle.refusals.specs.declared.refusal.Refusal.TheVariants as refused
use Rattle.outer_traits.specs.States.{OutputState}
use Rattle.archive_store.specs.Entries.{FilledArchive}
use Rattle.command_plans.specs.Plan.{OfMemory, CommandPlan, May, Question, Stop}
use Rattle.command_runs.specs.Command.{Progress, archive_opened, printing_plan}
use Rattle.command_runs.specs.Finishing.{IsFinished}

-- what a check leads to: the text, or the refusal and no text
abbrev pub after_check : Progress → List ℕ → Option Refusal → CommandPlan Progress ⊥
after_check s text None = printing_plan s text
after_check s text (Some refusal) = Stop s (Some refusal)

-- checks an archive that was opened after so many sources were given, and prints a text where nothing is found: want of
-- memory; what the check finds
abbrev pub checking_plan : ℕ → FilledArchive → (Option Refusal → Type 0) → List ℕ → CommandPlan Progress ⊥
checking_plan sources filled IsFound text =
    May OfMemory (archive_opened sources filled) (Question IsFound (after_check (archive_opened sources filled) text))

-- nothing was found, and the text was printed, or not to its end
pub record IsPassed (IsFound : Option Refusal → Type 0) (text : List ℕ) (refusal : Option Refusal)
    (before after : OutputState) : Type 0 where
  pub found : IsFound None
  pub printed : IsFinished refusal before after text

-- why a check was refused: memory was wanting, or it found this
abbrev pub IsCheckRefusal : (Option Refusal → Type 0) → Refusal → Type 0
IsCheckRefusal IsFound refusal = (refusal ≡ refused.OutOfMemory) ⊎ IsFound (Some refusal)

-- how a check is answered: it found nothing, or it was refused and nothing was written
abbrev pub IsCheckReply : (Option Refusal → Type 0) → List ℕ → Option Refusal → OutputState → OutputState → Type 0
IsCheckReply IsFound text refusal before after =
    IsPassed IsFound text refusal before after ⊎ (IsSomeAnd refusal (IsCheckRefusal IsFound) × (after ≡ before))
