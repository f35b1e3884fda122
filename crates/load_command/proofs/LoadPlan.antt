-- How the plan of `load` goes.
use Rattle.std.proofs.Common.{◌≡◌, ◌∙◌, inl, inr, ℕ, ℤ, Bool, true, false, List, [], ◌∷◌, length, Option, Some, None, refl, sym, ap, subst}
use Rattle.std.specs.Prelude.{Err, IsSome, IsTrue, Result, Ok}
use Rattle.std.specs.List.{list_any}
use Rattle.arch_disk.specs.Disk.{Device}
use Rattle.asks.specs.declared.ask.Ask.{Ask}
use Rattle.refusals.specs.declared.refusal.Refusal.{Refusal}
use Rattle.refusals.specs.declared.refusal.Refusal.TheVariants as refused
use Rattle.archive_store.specs.Entries.{Archive, FilledArchive}
use Rattle.history_items.specs.declared.fills.Addition.{Addition}
use Rattle.outer_traits.specs.Outside.{Files}
use Rattle.outer_traits.specs.States.{InputsState, SourceState}
use Rattle.command_plans.specs.Inputs.{AnsweredByPlan}
use Rattle.command_plans.specs.Ledger.{UsedInputs}
use Rattle.command_plans.proofs.Ledgers.{inputs_unused}
use Rattle.command_plans.specs.Plan.{FailedCalls, OfMemory, OfInputs, OfOutput, OfDisk, no_failed_calls, with_failed_call, CommandPlan, May, Choose, Way, Returned, Stopped, Interrupted, Allows, EachEnd, IsDetermined, map_done}
use Rattle.command_plans.specs.Sources.{AreNewSources, GaveSources, TookSources, UsedSources, opening_all_plan}
use Rattle.command_plans.proofs.Plans.{allows_map_done, cut, determined, determined_map_done, ended, gave}
use Rattle.command_plans.proofs.Sources.{new_sources_length, opening_all_determined, unused_sources, used_sources}
use Rattle.command_words.specs.Job.{LoadWords}
use Rattle.command_words.specs.LoadLimits.{links_refusal, load_limit_refusal}
use Rattle.ask_answers.specs.Asks.{asks_check_plan}
use Rattle.ask_answers.proofs.AskSheets.{asked_determined, check_determined, check_refused, checked}
use Rattle.command_runs.specs.ArchiveWork.{RanWith, UsedByWork, opened_plan}
use Rattle.command_runs.specs.Command.{Effects, EndedAt, HasDiskOutcome, Opened, Progress, RanOver, archive_opened, failed_at, nothing_done, opening_plan, sources_at}
use Rattle.command_runs.specs.FillingPlan.{FillingEnd, Refused, Unread, Unwritten, Whole, after_filling, fill_failed, filled_to}
use Rattle.command_runs.specs.Reading.{InMemory, OnPages, RowsPlace, after_pages, reading_plan}
use Rattle.command_runs.proofs.Reading.{AreTold}
use Rattle.command_runs.specs.Report.{read_only, unopened}
use Rattle.command_runs.proofs.Commands.{no_text}
use Rattle.command_runs.proofs.FillingPlan.{filling_determined}
use Rattle.command_runs.proofs.Openings.{opens_determined}
use Rattle.command_runs.proofs.OverInputs.{ran_unread}
use Rattle.live_asks.specs.LiveAsks.{DiskFacts, disk_facts}
use Rattle.live_session.specs.declared.reported.ReportedRefusal.{ReportedRefusal}
use Rattle.live_session.specs.Outcome.{JobsOutcome, reported_of}
use Rattle.stream_graph.specs.declared.statement.RouteStatement.{RouteStatement}
use Rattle.load_command.specs.Load.{after_jobs, after_session, after_limits, after_links, after_route, archive_load_plan, history_extended, job_refused, jobs_plan, load_plan, load_printing_plan, loading_plan, read_load_plan, route_plan, routed_load_plan}
use Rattle.load_command.specs.Loading.{HaveUsedSources, IsReady, IsRouteAnswer, IsUnready, LoadAsked, is_unread, load_asked}
use Rattle.load_command.proofs.RoutePlan.{route_determined, route_read_determined}

-- ---- the jobs

-- so many sources were given, and whether a read failed
abbrev pub HasUsed : ℕ → Bool → Way Progress ⊥ → Type 0
HasUsed dumps failed way = (sources_at way ≡ dumps) × (failed_at way OfInputs ≡ failed)

-- at each end, by what the jobs came to
module _ (dumps : ℕ) (filled : FilledArchive) (c : JobsOutcome) where
  abbrev Used : Way Progress ⊥ → Type 0
  Used = HasUsed dumps (list_any is_unread c.ends)

  printing_used : (asks : List Ask) → EachEnd Used (load_printing_plan dumps filled asks c)
  printing_used [] = ((refl, refl), (refl, refl))
  printing_used (ask ∷ asks) = ((refl, refl), ((refl, refl), (refl, refl)))

  pub session_used : (place : RowsPlace) (next : CommandPlan Progress ⊥) → EachEnd Used next → (reported : Option ReportedRefusal) (failed : Option Addition) → EachEnd Used (after_session place dumps filled c next reported failed)
  session_used place next behind None failed = ((refl, refl), over place)
    where
      each : (full : Bool) → EachEnd Used (after_filling (history_extended dumps filled None c) next full)
      each true = (refl, refl)
      each false = behind

      filling : EachEnd Used (May OfDisk (fill_failed filled c.reached (history_extended dumps filled None c)) (Choose (λ (full : Bool). Unit {0}) (after_filling (history_extended dumps filled None c) next)))
      filling = ((refl, refl), λ full is. each full)

      read : (found : Option Refusal) → EachEnd Used (after_pages (history_extended dumps filled None c) (May OfDisk (fill_failed filled c.reached (history_extended dumps filled None c)) (Choose (λ (full : Bool). Unit {0}) (after_filling (history_extended dumps filled None c) next))) found)
      read None = filling
      read (Some refusal) = (refl, refl)

      over : (at : RowsPlace) → EachEnd Used (reading_plan at (history_extended dumps filled None c) (May OfDisk (fill_failed filled c.reached (history_extended dumps filled None c)) (Choose (λ (full : Bool). Unit {0}) (after_filling (history_extended dumps filled None c) next))))
      over InMemory = filling
      over (OnPages Tells) = ((refl, refl), λ found was. read found)
  session_used place next behind (Some reported) None = λ end is. each end
    where
      each : (end : FillingEnd) → Used (Stopped (filled_to filled c.reached (job_refused dumps filled c reported) end) (Some reported.refusal))
      each Whole = (refl, refl)
      each Unwritten = (refl, refl)
      each Unread = (refl, refl)
      each Refused = (refl, refl)
  session_used place next behind (Some reported) (Some addition) = (refl, refl)

  pub jobs_used : (Tells : Type 0) (asks : List Ask) (reported : Option ReportedRefusal) (failed : Option Addition) → EachEnd Used (after_jobs Tells dumps filled asks c reported failed)
  jobs_used Tells asks reported failed = session_used (OnPages Tells) (load_printing_plan dumps filled asks c) (printing_used asks) reported failed

-- ---- dumps that were opened, loaded into an archive that was

module _ {D : Type 0} (device : Device D) (e : Effects D) (facts : ℕ → DiskFacts) (files : Option Files) (next : Option ℤ) (words : LoadWords) (text : Option (List ℕ)) (sheet : Result (List Ask) Refusal) (filled : FilledArchive)
    {S : Type 0} (state : S → SourceState) (olds : List S) (as_many : length words.dumps ≡ length olds) where
  abbrev loading : CommandPlan Progress ⊥
  loading = loading_plan facts files next (load_asked words text sheet) filled

  abbrev archive : Archive
  archive = filled.plain

  abbrev opened : Progress
  opened = archive_opened (length words.dumps) filled

  abbrev asked : LoadAsked
  asked = load_asked words text sheet

  abbrev Loaded : List S → Type 0
  Loaded news = RanWith device loading e (HaveUsedSources state olds news)

  -- the asks of a sheet that the archive can answer are checked, and the jobs run
  routes_on : (route : List RouteStatement) → links_refusal words ≡ None → IsRouteAnswer archive text (Ok route) → (way : Way Progress ⊥)
      → Allows (after_route facts files next words sheet filled route) way → Allows loading way
  routes_on route near is way goes =
      (None, sym near, gave (route_plan opened archive text) (after_route facts files next words sheet filled) route way (inr (Ok route, is, refl)) goes)

  pub load_run : (route : List RouteStatement) (asks : List Ask) → IsReady archive asked route asks → (news : List S)
      → RanWith device (jobs_plan facts files next words filled route asks) e (HaveUsedSources state olds news) → Loaded news
  load_run route asks ready news went = record {
    ran = record {
      way = went.ran.way;
      allows = routes_on route ready.0 ready.1 went.ran.way
          (gave (asks_check_plan opened archive sheet) (jobs_plan facts files next words filled route) asks went.ran.way (checked opened archive sheet asks ready.2) went.ran.allows);
      did = went.ran.did;
    };
    used = went.used;
  }

  -- ---- nothing was run, and the archive was left as it was

  module _ (silent : e.output' ≡ e.output) (disk : HasDiskOutcome device e.disk e.disk' false (Opened filled)) where
    unused : (way : Way Progress ⊥) → sources_at way ≡ length words.dumps → failed_at way OfInputs ≡ false → HaveUsedSources state olds olds way
    unused way given failed = record { given = given ∙ as_many; used = subst (UsedSources state olds olds) (sym failed) (unused_sources state olds) }

    left : (refusal : Refusal) (failed : FailedCalls) → failed OfOutput ≡ false → failed OfDisk ≡ false → e.report ≡ read_only (Some refusal) (length archive.history) → EndedAt device e opened (Some refusal) failed
    left refusal failed no_output no_disk report =
        record { report = report; printed = rw silent (no_text e.output.written); output = record { counted = rw (silent, no_output) refl }; disk = rw no_disk disk; log = tt; pending = tt }

    stopped : (refusal : Refusal) → e.report ≡ read_only (Some refusal) (length archive.history) → Allows loading (Stopped opened (Some refusal)) → Loaded olds
    stopped refusal report goes = record {
      ran = record { way = Stopped opened (Some refusal); allows = goes; did = left refusal no_failed_calls refl refl report };
      used = unused (Stopped opened (Some refusal)) refl refl;
    }

    without_memory : (refusal : Refusal) → refusal ≡ refused.OutOfMemory → e.report ≡ read_only (Some refusal) (length archive.history) → Allows loading (Interrupted opened OfMemory) → Loaded olds
    without_memory refusal is report goes = record {
      ran = record {
        way = Interrupted opened OfMemory;
        allows = goes;
        did = left refused.OutOfMemory (with_failed_call OfMemory no_failed_calls) refl refl (report ∙ ap (λ (r : Refusal). read_only (Some r) (length archive.history)) is);
      };
      used = unused (Interrupted opened OfMemory) refl refl;
    }

    -- a link was refused, or the route, or the sheet of asks
    pub load_unready : (refusal : Refusal) → IsUnready archive asked refusal → e.report ≡ read_only (Some refusal) (length archive.history) → Loaded olds
    load_unready refusal (inl far) report = stopped refusal report (Some refusal, sym far, refl)
    load_unready refusal (inr (near, inl (inl memory))) report =
        without_memory refusal memory report (None, sym near, cut (route_plan opened archive text) (after_route facts files next words sheet filled) opened OfMemory (inl refl))
    load_unready refusal (inr (near, inl (inr is))) report =
        stopped refusal report (None, sym near, ended (route_plan opened archive text) (after_route facts files next words sheet filled) opened (Some refusal) (inr (Err refusal, is, refl)))
    load_unready refusal (inr (near, inr asks_are)) report =
        let route = asks_are.0 in
        let f = jobs_plan facts files next words filled route in
        elim (check_refused opened archive sheet refusal asks_are.2) [
          | inl ending ↦ stopped refusal report
              (routes_on route near asks_are.1 (Stopped opened (Some refusal)) (ended (asks_check_plan opened archive sheet) f opened (Some refusal) ending))
          | inr memory ↦ without_memory refusal memory.0 report
              (routes_on route near asks_are.1 (Interrupted opened OfMemory) (cut (asks_check_plan opened archive sheet) f opened OfMemory memory.1))
        ]

-- ---- the whole load

module _ {D : Type 0} (device : Device D) (e : Effects D) (files : Option Files) (next : Option ℤ) (words : LoadWords) (text : Option (List ℕ)) (sheet : Result (List Ask) Refusal) (a b : InputsState) where
  abbrev opens : CommandPlan ℕ (Unit {0})
  opens = opening_all_plan files words.dumps 0

  abbrev behind : CommandPlan Progress ⊥
  behind = opened_plan (length words.dumps) device e.disk (λ known. loading_plan (disk_facts device e.disk) files next (load_asked words text sheet))

  abbrev plan : CommandPlan Progress ⊥
  plan = archive_load_plan device e.disk files next words text sheet

  -- the dumps weren't opened
  pub ran_unopened_dumps : (refusal : Refusal) → AnsweredByPlan {X = Unit {0}} (length words.dumps) (opening_all_plan files words.dumps) (Err refusal) a b
      → e.report ≡ unopened (Some refusal) → e.disk' ≡ e.disk → e.output' ≡ e.output → RanOver device plan e a b
  ran_unopened_dumps refusal read report same silent =
      ran_unread device e (opening_all_plan files words.dumps) (λ (done : Unit {0}). behind) a b (length words.dumps) refusal read report same silent

  -- they were: sources were given, the jobs took them, and they were closed again
  module _ {S : Type 0} (state : S → SourceState) (firsts lasts : List S) (m : InputsState) (allows : (before : ℕ) → Allows (opening_all_plan files words.dumps before) (Returned tt)) (given : GaveSources a m (length words.dumps))
      (are_new : AreNewSources state a words.dumps firsts) (took : TookSources state lasts m b) where
    as_many : length firsts ≡ length words.dumps
    as_many = new_sources_length state a words.dumps firsts are_new

    closed : (failed : Bool) → UsedSources state firsts lasts failed → UsedInputs a b (length words.dumps) failed
    closed failed used = used_sources state words.dumps firsts lasts failed a m b given are_new used took

    over : (way : Way Progress ⊥) → UsedByWork (length firsts) firsts lasts (HaveUsedSources state firsts lasts) way → UsedInputs a b (sources_at way) (failed_at way OfInputs)
    over way (inl before) =
        subst (λ (n : ℕ). UsedInputs a b n (failed_at way OfInputs)) (sym (before.0 ∙ as_many))
        (closed (failed_at way OfInputs) (subst (λ (l : List S). UsedSources state firsts l (failed_at way OfInputs)) (sym before.2) (subst (UsedSources state firsts firsts) (sym before.1) (unused_sources state firsts))))
    over way (inr used) = subst (λ (n : ℕ). UsedInputs a b n (failed_at way OfInputs)) (sym (used.given ∙ as_many)) (closed (failed_at way OfInputs) used.used)

    pub ran_loaded : RanWith device (opened_plan (length firsts) device e.disk (λ known. loading_plan (disk_facts device e.disk) files next (load_asked words text sheet))) e
        (UsedByWork (length firsts) firsts lasts (HaveUsedSources state firsts lasts)) → RanOver device plan e a b
    ran_loaded went = record {
      ran = record {
        way = went.ran.way;
        allows = gave (map_done nothing_done opens) (λ (done : Unit {0}). behind) tt went.ran.way (allows_map_done nothing_done opens (Returned tt) (allows 0))
            (subst (λ (n : ℕ). Allows (opened_plan n device e.disk (λ known. loading_plan (disk_facts device e.disk) files next (load_asked words text sheet))) went.ran.way) as_many went.ran.allows);
        did = went.ran.did;
      };
      inputs = over went.ran.way went.used;
    }

-- ---- too many dumps or fillers

module _ {D : Type 0} (device : Device D) (e : Effects D) (files : Option Files) (next : Option ℤ) (words : LoadWords) (a b : InputsState) where
  pub ran_limited : (refusal : Refusal) → load_limit_refusal words ≡ Some refusal → e.report ≡ unopened (Some refusal) → e.disk' ≡ e.disk → e.output' ≡ e.output
      → RanOver device (load_plan device e.disk files next words) e a a
  unfolding load_plan
  ran_limited refusal is report same silent = record {
    ran = record {
      way = Stopped (nothing_done 0) (Some refusal);
      allows = (Some refusal, sym is, refl);
      did = record { report = report; printed = rw silent (no_text e.output.written); output = record { counted = rw silent refl }; disk = same; log = tt; pending = tt };
    };
    inputs = inputs_unused a;
  }

  pub ran_unlimited : load_limit_refusal words ≡ None → RanOver device (read_load_plan device e.disk files next words) e a b → RanOver device (load_plan device e.disk files next words) e a b
  unfolding load_plan
  ran_unlimited none went = record { ran = record { way = went.ran.way; allows = (None, sym none, went.ran.allows); did = went.ran.did }; inputs = went.inputs }

-- ---- which answer is due

pub session_determined : (place : RowsPlace) (told : AreTold place) (sources : ℕ) (filled : FilledArchive) (c : JobsOutcome) (next : CommandPlan Progress ⊥) → IsDetermined next → (reported : Option ReportedRefusal) (failed : Option Addition)
    → IsDetermined (after_session place sources filled c next reported failed)
session_determined place told sources filled c next due None failed = filling_determined place (λ full. Unit {0}) filled c.reached (history_extended sources filled None c) next told due
session_determined place told sources filled c next due (Some reported) None = λ end is. tt
session_determined place told sources filled c next due (Some reported) (Some addition) = tt

jobs_determined : (Tells : Type 0) → Tells → (dumps : ℕ) (filled : FilledArchive) (asks : List Ask) (c : JobsOutcome) (reported : Option ReportedRefusal) (failed : Option Addition) → IsDetermined (after_jobs Tells dumps filled asks c reported failed)
jobs_determined Tells told dumps filled asks c reported failed = session_determined (OnPages Tells) told dumps filled c (load_printing_plan dumps filled asks c) (printing asks) reported failed
  where
    printing : (asks : List Ask) → IsDetermined (load_printing_plan dumps filled asks c)
    printing [] = tt
    printing (ask ∷ asks) = tt

module _ (facts : ℕ → DiskFacts) (told : (sealed : ℕ) → (facts sealed).known) (files : Option Files) (next : Option ℤ) (words : LoadWords) (sheet : Result (List Ask) Refusal) (filled : FilledArchive) where
  routed_determined : (route : List RouteStatement) → IsDetermined (after_route facts files next words sheet filled route)
  routed_determined route =
      determined (asks_check_plan (archive_opened (length words.dumps) filled) filled.plain sheet) (jobs_plan facts files next words filled route) (check_determined (archive_opened (length words.dumps) filled) filled.plain sheet)
      (λ asks sealed any g given c came. jobs_determined (facts sealed).known (told sealed) (length words.dumps) filled asks c (reported_of words.link c.ends c.others) c.failed)

  loading_determined : (text : Option (List ℕ)) → IsDetermined (loading_plan facts files next (load_asked words text sheet) filled)
  loading_determined text = (λ a b h k. h ∙ sym k, λ found h. each found)
    where
      each : (found : Option Refusal) → IsDetermined (after_links facts files next (load_asked words text sheet) filled found)
      each None =
          determined (route_plan (archive_opened (length words.dumps) filled) filled.plain text) (after_route facts files next words sheet filled) (route_determined (archive_opened (length words.dumps) filled) filled.plain text)
          routed_determined
      each (Some refusal) = tt

pub load_determined : {D : Type 0} (device : Device D) (disk : D) (files : Option Files) (next : Option ℤ) (words : LoadWords) → IsTrue device.is_transparent → IsSome files
    → IsDetermined (load_plan device disk files next words)
unfolding load_plan
load_determined device disk None next words known some = absurd (cc (some))
load_determined device disk (Some all) next words known some = (λ a b h k. h ∙ sym k, λ found h. each found)
  where
    archived : (text : Option (List ℕ)) (sheet : Result (List Ask) Refusal) → IsDetermined (archive_load_plan device disk (Some all) next words text sheet)
    archived text sheet =
        determined (map_done nothing_done (opening_all_plan (Some all) words.dumps 0)) (λ (done : Unit {0}). opened_plan (length words.dumps) device disk (λ facts. loading_plan (disk_facts device disk) (Some all) next (load_asked words text sheet)))
        (determined_map_done nothing_done (opening_all_plan (Some all) words.dumps 0) (opening_all_determined all words.dumps 0))
        (λ done. determined (opening_plan (length words.dumps) device disk) (loading_plan (disk_facts device disk) (Some all) next (load_asked words text sheet)) (opens_determined (length words.dumps) device disk known)
        (λ filled. loading_determined (disk_facts device disk) (λ sealed. known) (Some all) next words sheet filled text))

    each : (found : Option Refusal) → IsDetermined (after_limits device disk (Some all) next words found)
    each None =
        route_read_determined all words.route (routed_load_plan device disk (Some all) next words)
        (λ text. asked_determined all words.asks (archive_load_plan device disk (Some all) next words text) (archived text))
    each (Some refusal) = tt
