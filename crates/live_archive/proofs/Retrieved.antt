-- What was planned in a turn, and answered behind it.
use Rattle.std.proofs.Common.{◌≡◌, inl, inr, Option, Some, None, Result, Ok, Err, IfErr, ℕ, ◌+◌, ◌≤◌, length, refl, sym, ap, ◌∙◌, subst, arith}
use Rattle.std.specs.Prelude.{filter}
use Rattle.std.specs.Arc.{arc_value}
use Rattle.std.specs.List.{AllByRecursion}
use Rattle.arch_disk.specs.Disk.{Device}
use Rattle.arch_types.specs.Table.{is_in_time_range}
use Rattle.asks.specs.declared.ask.Answer.{Answer}
use Rattle.asks.specs.declared.ask.Request.{Request}
use Rattle.asks.specs.declared.refusal.AskRefusal.{AskRefusal}
use Rattle.asks.specs.declared.refusal.AskRefusal.TheVariants.{UnknownParameter, BadRange, UnknownTable}
use Rattle.asks.specs.Refusals.{request_refusal}
use Rattle.refusals.specs.declared.refusal.Refusal.{Refusal}
use Rattle.refusals.specs.declared.refusal.Refusal.TheVariants.{DiskFault}
use Rattle.mdb_items.specs.Database.{Database}
use Rattle.param_segments.specs.Plans.{HasValuesOf, rows_of_parts}
use Rattle.archive_store.specs.Finding.{IsNotFound}
use Rattle.archive_store.specs.StoreView.{StoreView}
use Rattle.archive_store.specs.UnreadRows.{IsLeftByAnswer, IsLeftByRefusal, ReadsRows}
use Rattle.archive_store.specs.Pages.{TellsRows}
use Rattle.part_answers.specs.PartCells.{answer_over_parts}
use Rattle.retrieval.proofs.FilledAnswers.{plan_filled}
use Rattle.retrieval.proofs.LateRows.{late_in_range}
use Rattle.retrieval.proofs.Planned as over_plan
use Rattle.live_archive.specs.declared.retrieving.Planned.{Planned}
use Rattle.live_archive.specs.Closings.{closings}
use Rattle.live_archive.specs.GoesOn.{GoesOn}
use Rattle.live_archive.specs.Retrievals.{IsAnswerIn, IsNotAnswered, IsPlannedIn, in_force, steps_allowed}
use Rattle.live_archive.proofs.Closings.{none_reads, none_unread}
use Rattle.live_archive.proofs.Going.{goes_reads, goes_unread}

-- what isn't found is no failed read
pub not_failed : (asked : Option AskRefusal) (refusal : Refusal) → IsNotFound asked refusal → refusal ≡ DiskFault → ⊥
not_failed (Some UnknownParameter) refusal is failed = cc (is, failed)
not_failed (Some (BadRange from to)) refusal is failed = cc (is, failed)
not_failed (Some (UnknownTable name)) refusal is failed = cc (is, failed)
not_failed None refusal is failed = cc (is, failed)

-- ---- what a request that is planned leaves

module _ {D : Type 0} (device : Device D) (a b : StoreView D) (request : Request) where
  -- where it isn't found, all is as it was, but for pages that were read
  pub left_unfound : (refusal : Refusal) → (refusal ≡ DiskFault → ⊥) → IsLeftByRefusal device a b refusal → ReadsRows device a b
  left_unfound DiskFault other left = absurd (other refl)
  left_unfound _ other left = left

  goes_unplanned : (refusal : Refusal) → IsNotAnswered device a b request refusal → IsLeftByRefusal device a b refusal → GoesOn device a b
  goes_unplanned refusal (inl not) left = goes_reads device a b (left_unfound refusal (not_failed (request_refusal (in_force a) request) refusal not) left)
  goes_unplanned refusal (inr unread) left = goes_unread device a b refusal unread left

  pub goes_planned : {X : Type 0} (r : Result X Refusal) → IfErr r (IsNotAnswered device a b request) → IsLeftByAnswer device a b r → GoesOn device a b
  goes_planned (Ok x) refused left = goes_reads device a b left
  goes_planned (Err refusal) refused left = goes_unplanned refusal refused left

  none_unplanned : (refusal : Refusal) → IsNotAnswered device a b request refusal → IsLeftByRefusal device a b refusal → closings b.fills ≡ closings a.fills
  none_unplanned refusal (inl not) left = none_reads device a b (left_unfound refusal (not_failed (request_refusal (in_force a) request) refusal not) left)
  none_unplanned refusal (inr unread) left = none_unread device a b refusal unread left

  pub none_planned : {X : Type 0} (r : Result X Refusal) → IfErr r (IsNotAnswered device a b request) → IsLeftByAnswer device a b r → closings b.fills ≡ closings a.fills
  none_planned (Ok x) refused left = none_reads device a b left
  none_planned (Err refusal) refused left = none_unplanned refusal refused left

-- ---- what is answered

module _ {D : Type 0} (device : Device D) (store : StoreView D) (request : Request) (planned : Planned) where
  -- the values of its parts are of the plan's database
  pub values_of_plan : IsPlannedIn device store request planned → AllByRecursion (HasValuesOf (arc_value planned.plan.mdb)) planned.plan.parts
  values_of_plan is = subst (λ (db : Database). AllByRecursion (HasValuesOf db) planned.plan.parts) (sym is.plan.mdb) is.values

  -- what is answered over its parts is the answer over the history
  pub answered_in : IsPlannedIn device store request planned → (answer : Answer) → answer.front ≡ planned.plan.front
      → answer.cells ≡ answer_over_parts (arc_value planned.plan.mdb) planned.found.number planned.found.request planned.plan.parts
      → IsAnswerIn device store request answer
  answered_in is answer front cells =
      let found = planned.found in
      let plan = planned.plan in
      let over : answer.cells ≡ answer_over_parts (in_force store) found.number found.request plan.parts =
      cells ∙ ap (λ (db : Database). answer_over_parts db found.number found.request plan.parts) is.plan.mdb in
      subst (λ (r : Request). IsAnswerIn device store r answer) is.asked (record {
        front = front ∙ is.plan.front;
        filled = λ told. record {
          front = front ∙ is.plan.front;
          number = found.number;
          named = is.found.number;
          cells = over ∙ plan_filled device store (in_force store) found.number found.request plan is.bases told is.plan;
        };
        answered = λ clear sound. (
          found.number,
          is.found.number,
          over ∙ over_plan.planned store.head store.history found.request found.number plan (is.over clear sound),
        );
      })

  -- a step for each row that the plan leaves to extract is one for each late row
  pub steps_within : IsPlannedIn device store request planned → TellsRows device store → (taken now : ℕ)
      → now ≤ taken + length (filter (is_in_time_range planned.found.request.from planned.found.request.to) (rows_of_parts planned.plan.parts))
      → now ≤ steps_allowed store request taken
  steps_within is told taken now few =
      let asked = planned.found.request in
      let late = ap length (late_in_range device store asked.from asked.to told planned.plan is.plan) in
      subst (λ (r : Request). now ≤ steps_allowed store r taken) is.asked (omega (arith, few, late))
