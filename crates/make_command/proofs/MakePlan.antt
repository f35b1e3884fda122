-- How the plan of `make` goes.
use Rattle.std.proofs.Common.{◌≡◌, ℕ, ℤ, Bool, true, false, List, Option, Some, None, refl, subst}
use Rattle.std.specs.Prelude.{IsTrue}
use Rattle.std.specs.List.{list_any}
use Rattle.arch_disk.specs.Disk.{Device}
use Rattle.refusals.specs.declared.refusal.Refusal.{Refusal}
use Rattle.history_items.specs.declared.fills.Addition.{Addition}
use Rattle.history_items.specs.declared.fills.Addition.TheVariants.{Rows}
use Rattle.history_items.specs.declared.items.Item.{Item}
use Rattle.archive_store.specs.Entries.{FilledArchive}
use Rattle.archive_commands.specs.Create.{after_sought}
use Rattle.archive_commands.proofs.Comparing.{compared_once}
use Rattle.archive_commands.proofs.CreatePlan.{holds_once}
use Rattle.command_plans.specs.Plan.{EachEnd, IsDetermined, Stopped}
use Rattle.command_plans.proofs.Plans.{determined_map_done}
use Rattle.command_runs.specs.Command.{AllFilled, Extended, FillingFailed, NotAsked, behind_making}
use Rattle.command_runs.specs.Extension.{filled_at}
use Rattle.command_runs.specs.FillingPlan.{FillingEnd, Refused, Unread, Unwritten, Whole, after_filling, filled_to}
use Rattle.command_runs.specs.Reading.{InMemory}
use Rattle.command_runs.proofs.Making.{AsksDisk, reads_behind}
use Rattle.command_runs.proofs.OverInputs.{HasRead}
use Rattle.live_session.specs.declared.reported.ReportedRefusal.{ReportedRefusal}
use Rattle.live_session.specs.Outcome.{JobsOutcome, reported_of}
use Rattle.load_command.specs.Load.{after_session, history_extended, job_refused}
use Rattle.load_command.specs.Loading.{is_unread, outcome_of_failure}
use Rattle.load_command.proofs.LoadPlan.{HasUsed, session_determined, session_used}
use Rattle.make_command.specs.Made.{made_archive, made_head}
use Rattle.make_command.specs.Make.{summary_or_mismatch, behind_plan, made_load_plan, make_plan, summary_plan}

-- ---- one answer is due

module _ {D : Type 0} (device : Device D) (seed : ℕ) (c : JobsOutcome) where
  summary_determined : IsDetermined (summary_plan device seed c)
  summary_determined = λ fillings is. (compared_once (Unit {0}) tt (filled_at made_archive c.reached fillings), λ found was. each (filled_at made_archive c.reached fillings) found)
    where
      each : (filled : FilledArchive) (found : Option Refusal) → IsDetermined (summary_or_mismatch seed c filled found)
      each filled None = tt
      each filled (Some refusal) = tt

pub make_determined : {D : Type 0} (device : Device D) (disk : D) (next : Option ℤ) (seed : ℕ) → IsTrue device.is_transparent → IsDetermined (make_plan device disk next seed)
unfolding make_plan
make_determined device disk next seed known = (λ a b h k. holds_once (device.reads disk) a b (h known) (k known), λ there h. each there)
  where
    each : (there : Bool) → IsDetermined (after_sought 0 (behind_plan device next seed) there)
    each true = tt
    each false =
        determined_map_done (behind_making made_head) (made_load_plan device next seed)
        (λ moment is c came. session_determined InMemory tt 0 made_archive c (summary_plan device seed c) (summary_determined device seed c) (reported_of 1 c.ends c.others) c.failed)

-- ---- nothing is asked of the inputs

module _ {D : Type 0} (device : Device D) (seed : ℕ) (c : JobsOutcome) where
  summary_used : EachEnd (HasUsed 0 (list_any is_unread c.ends)) (summary_plan device seed c)
  summary_used = λ fillings is. ((refl, refl), λ found was. each (filled_at made_archive c.reached fillings) found)
    where
      each : (filled : FilledArchive) (found : Option Refusal) → EachEnd (HasUsed 0 (list_any is_unread c.ends)) (summary_or_mismatch seed c filled found)
      each filled None = ((refl, refl), ((refl, refl), (refl, refl)))
      each filled (Some refusal) = (refl, refl)

pub make_reads : {D : Type 0} (device : Device D) (disk : D) (next : Option ℤ) (seed : ℕ) → EachEnd (HasRead 0) (make_plan device disk next seed)
unfolding make_plan
make_reads device disk next seed = ((refl, refl), ((refl, refl), λ there h. each there))
  where
    each : (there : Bool) → EachEnd (HasRead 0) (after_sought 0 (behind_plan device next seed) there)
    each true = (refl, refl)
    each false =
        reads_behind made_head 0 (made_load_plan device next seed)
        (λ moment is c came. subst (λ (b : Bool). EachEnd (HasUsed 0 b) (after_session InMemory 0 made_archive c (summary_plan device seed c) (reported_of 1 c.ends c.others) c.failed)) came.read.0
        (session_used 0 made_archive c InMemory (summary_plan device seed c) (summary_used device seed c) (reported_of 1 c.ends c.others) c.failed))

-- ---- behind the making the disk is asked

filled_asked : (before : FilledArchive) (reached : List Item) → AllFilled before reached ≡ NotAsked → ⊥
filled_asked before reached e = cc (e)

extended_asked : (before : FilledArchive) (reached : List Item) → Extended before reached ≡ NotAsked → ⊥
extended_asked before reached e = cc (e)

fill_asked : (before : FilledArchive) (reached : List Item) → FillingFailed before reached ≡ NotAsked → ⊥
fill_asked before reached e = cc (e)

write_asked : (before : FilledArchive) (reached : List Item) (addition : Addition) → outcome_of_failure before reached addition ≡ NotAsked → ⊥
write_asked before reached (Rows rows) e = cc (e)
write_asked before reached other e = cc (e)

module _ {D : Type 0} (device : Device D) (seed : ℕ) (c : JobsOutcome) where
  abbrev filled_to_end : AllFilled made_archive c.reached ≡ NotAsked → ⊥
  filled_to_end = filled_asked made_archive c.reached

  summary_asks : EachEnd AsksDisk (summary_plan device seed c)
  summary_asks = λ fillings is. (filled_to_end, λ found was. each (filled_at made_archive c.reached fillings) found)
    where
      each : (filled : FilledArchive) (found : Option Refusal) → EachEnd AsksDisk (summary_or_mismatch seed c filled found)
      each filled None = (filled_to_end, (filled_to_end, filled_to_end))
      each filled (Some refusal) = filled_to_end

  session_asks : (said : Option ReportedRefusal) (failed : Option Addition) → EachEnd AsksDisk (after_session InMemory 0 made_archive c (summary_plan device seed c) said failed)
  session_asks None failed = (extended_asked made_archive c.reached, (fill_asked made_archive c.reached, λ full is. each full))
    where
      each : (full : Bool) → EachEnd AsksDisk (after_filling (history_extended 0 made_archive None c) (summary_plan device seed c) full)
      each true = extended_asked made_archive c.reached
      each false = summary_asks
  session_asks (Some reported) None = λ end is. each end
    where
      each : (end : FillingEnd) → AsksDisk (Stopped (filled_to made_archive c.reached (job_refused 0 made_archive c reported) end) (Some reported.refusal))
      each Whole = filled_to_end
      each Unwritten = fill_asked made_archive c.reached
      each Unread = extended_asked made_archive c.reached
      each Refused = extended_asked made_archive c.reached
  session_asks (Some reported) (Some addition) = write_asked made_archive c.reached addition

pub load_asks : {D : Type 0} (device : Device D) (next : Option ℤ) (seed : ℕ) → EachEnd AsksDisk (made_load_plan device next seed)
load_asks device next seed = λ moment is c came. session_asks device seed c (reported_of 1 c.ends c.others) c.failed
