-- What holds of each end of plans that read rows, where the disk tells what it holds.
use Rattle.std.proofs.Common.{true, false, ℕ, List, Option, Some, None, sym, subst}
use Rattle.refusals.specs.declared.refusal.Refusal.{Refusal}
use Rattle.refusals.specs.declared.refusal.Refusal.TheVariants.{Damaged}
use Rattle.command_plans.specs.Plan.{OfMemory, OfDisk, OfOutput, CommandPlan, EachEnd, Interrupted, Stopped, Way}
use Rattle.command_runs.specs.Command.{Progress, printing_plan}
use Rattle.command_runs.specs.Reading.{IsPageAnswer, OnPages, after_pages, printing_read_plan, printing_rows_plan, reading_plan}

module _ (P : Way Progress ⊥ → Type 0) (Tells : Type 0) (tells : Tells) where
  -- a read may fail, and else what follows is done
  pub read_left : (s : Progress) (next : CommandPlan Progress ⊥) → P (Interrupted s OfDisk) → EachEnd P next → EachEnd P (reading_plan (OnPages Tells) s next)
  read_left s next cut rest = (cut, each)
    where
      each : (found : Option Refusal) → IsPageAnswer Tells found → EachEnd P (after_pages s next found)
      each None is = rest
      each (Some (Damaged file at)) is = absurd (is tells)
      each (Some other) is = absurd is

  -- a text is printed while rows are read
  pub printed_left : (s : Progress) (text : List ℕ) → P (Interrupted (record s { text = text; is_whole = false }) OfMemory) → P (Interrupted (record s { text = text; is_whole = false }) OfDisk)
      → P (Interrupted (record s { text = text; is_whole = false }) OfOutput) → P (Stopped (record s { text = text; is_whole = true }) None) → EachEnd P (printing_rows_plan Tells s text)
  printed_left s text memory disk output done = λ printed is.
      subst (λ (t : List ℕ). EachEnd P (printing_read_plan (OnPages Tells) s t)) (sym (is tells))
      (memory, read_left (record s { text = text; is_whole = false }) (printing_plan s text) disk (output, done))
