-- What a retrieval answers of the store that its turn found.
use Rattle.std.specs.Prelude.{◌≡◌, ◌⊎◌, ℕ, ◌+◌, List, filter, length, Some}
use Rattle.std.specs.List.{AllByRecursion}
use Rattle.arch_disk.specs.Disk.{Device}
use Rattle.arch_types.specs.declared.row.Row.{Row}
use Rattle.arch_types.specs.Table.{is_in_time_range}
use Rattle.asks.specs.declared.ask.Answer.{Answer}
use Rattle.asks.specs.declared.ask.Request.{Request}
use Rattle.asks.specs.Names.{parameter_number}
use Rattle.asks.specs.Refusals.{request_refusal}
use Rattle.refusals.specs.declared.refusal.Refusal.{Refusal}
use Rattle.intervals.specs.declared.interval.Interval.{Interval}
use Rattle.container_extract.specs.Answer.{answer_of}
use Rattle.history_items.specs.Databases.{database_in}
use Rattle.history_items.specs.Fills.{base_in}
use Rattle.history_items.specs.Items.{rows_in}
use Rattle.mdb_items.specs.Database.{Database}
use Rattle.param_segments.specs.Plans.{HasValuesOf}
use Rattle.store_fills.specs.LastFills.{fillings_in}
use Rattle.store_fills.specs.Sound.{base_of_filling}
use Rattle.archive_store.specs.Finding.{IsNotFound, IsRequestFound}
use Rattle.archive_store.specs.Plans.{IsPlan, IsPlanOver, late_rows_of_range}
use Rattle.archive_store.specs.Pages.{TellsRows}
use Rattle.archive_store.specs.UnreadRows.{IsReadRefusal}
use Rattle.archive_store.specs.StoreView.{StoreView}
use Rattle.retrieval.specs.FilledAnswer.{IsFilledAnswer}
use Rattle.live_archive.specs.declared.retrieving.Planned.{Planned}
use Rattle.live_archive.specs.Answers.{WhereSound}

-- the database in force
abbrev pub in_force : {D : Type 0} → StoreView D → Database
in_force store = database_in store.head.mdb store.history

-- what is refused of the ask, or rows that aren't read
abbrev pub IsNotAnswered : {D : Type 0} → Device D → StoreView D → StoreView D → Request → Refusal → Type 0
IsNotAnswered device before after request refusal =
    IsNotFound (request_refusal (in_force before) request) refusal ⊎ IsReadRefusal device before after refusal

-- the rows of the range in late intervals
abbrev pub late_rows_asked : {D : Type 0} → StoreView D → Request → List Row
late_rows_asked store request =
    filter (is_in_time_range request.from request.to)
    (late_rows_of_range store.exponent store.history store.fills request.from request.to)

-- a step more for each of them, at most
abbrev pub steps_allowed : {D : Type 0} → StoreView D → Request → ℕ → ℕ
steps_allowed store request taken = taken + length (late_rows_asked store request)

-- the request was found in the database in force, and planned over the whole history, whose fill list has the bases of
-- the fills that are there
pub record IsPlannedIn {D : Type 0} (device : Device D) (store : StoreView D) (request : Request) (planned : Planned)
    : Type 0 where
  pub asked : planned.found.request ≡ request
  pub found : IsRequestFound (in_force store) planned.found
  pub plan : IsPlan device store planned.found.request.from planned.found.request.to planned.plan
  pub values : AllByRecursion (HasValuesOf (in_force store)) planned.plan.parts
  pub over : WhereSound device store
      (IsPlanOver store.head store.history planned.found.request.from planned.found.request.to planned.plan)
  pub bases : (interval : Interval) → base_in interval store.fills ≡ base_of_filling (fillings_in store.filled) interval

-- an answer over the whole history, with its fills where the store tells its rows; where these were sound, too, the
-- cells that the rows of the range give
pub record IsAnswerIn {D : Type 0} (device : Device D) (store : StoreView D) (request : Request) (answer : Answer)
    : Type 0 where
  pub front : answer.front ≡ length store.history
  pub filled : TellsRows device store →
      IsFilledAnswer (in_force store) store.exponent store.history (fillings_in store.filled) request answer
  pub answered : WhereSound device store ((number : ℕ)
      × (parameter_number (in_force store) request.parameter ≡ Some number)
      × (answer.cells ≡ answer_of (in_force store) number request (rows_in store.history)))
