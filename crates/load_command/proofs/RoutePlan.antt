-- The script of a route: read before all else, and what it stands for over a head.
use Rattle.std.proofs.Common.{◌≡◌, ◌∙◌, ℕ, List, Option, Some, None, sym, ap}
use Rattle.std.specs.Prelude.{Result, Ok, Err}
use Rattle.arch_disk.specs.Disk.{Device}
use Rattle.refusals.specs.declared.refusal.Refusal.{Refusal}
use Rattle.refusals.specs.declared.refusal.Which.TheVariants.{ScriptOctets}
use Rattle.history_items.specs.Databases.{names_in}
use Rattle.archive_store.specs.Entries.{Archive}
use Rattle.command_plans.specs.Plan.{CommandPlan, IsDetermined, map_done}
use Rattle.command_plans.proofs.Plans.{determined, determined_map_done}
use Rattle.command_plans.specs.Inputs.{AnsweredByPlan, WasRead}
use Rattle.command_plans.proofs.Inputs.{reads_determined}
use Rattle.outer_traits.specs.Outside.{Files}
use Rattle.outer_traits.specs.States.{InputsState}
use Rattle.ssql_types.specs.declared.place.ScriptPlace.TheVariants as ScriptPlace
use Rattle.ssql_types.specs.declared.statement.TypedStatement.{TypedStatement}
use Rattle.stream_graph.specs.declared.statement.RouteStatement.{RouteStatement}
use Rattle.stream_graph.specs.Routes.{route_statements}
use Rattle.ask_answers.specs.Asks.{with_sources}
use Rattle.command_runs.specs.Command.{Progress, Effects, RanOver, nothing_done}
use Rattle.load_command.specs.Load.{route_plan, routed_plan}
use Rattle.load_command.specs.Loading.{IsRouteAnswer, IsRouteScript}
use Rattle.command_runs.specs.Report.{unopened}
use Rattle.script_answers.specs.Scripts.{script_octets_plan}
use Rattle.ask_answers.proofs.AskSheets.{ran_behind}
use Rattle.command_runs.proofs.OverInputs.{ran_unread}
use Rattle.script_answers.proofs.ScriptAnswers.{answered_determined, one_script_answer}

-- ---- it is read

module _ {D : Type 0} (device : Device D) (e : Effects D) (files : Option Files) (next : Option (List ℕ) → CommandPlan Progress ⊥) (a : InputsState) where
  -- there is none
  pub ran_unrouted : (b : InputsState) (routed : Option (List ℕ)) → routed ≡ None → RanOver device (next None) e a b → RanOver device (routed_plan files routed next) e a b
  ran_unrouted b routed is went = rw is went

  module _ (m b : InputsState) (routed : Option (List ℕ)) (name : List ℕ) (is : routed ≡ Some name) where
    -- it was read, and what followed ran
    pub ran_routed : (text : List ℕ) → WasRead (script_octets_plan files name) text 1 a m → RanOver device (next (Some text)) e m b → RanOver device (routed_plan files routed next) e a b
    ran_routed text read went = rw is (ran_behind device e (script_octets_plan files name) (λ (text : List ℕ). next (Some text)) a m b text read went)

  -- it wasn't read
  pub ran_unread_script : (b : InputsState) (routed : Option (List ℕ)) (name : List ℕ) → routed ≡ Some name → (refusal : Refusal) →
      AnsweredByPlan {X = List ℕ} 1 (script_octets_plan files name) (Err refusal) a b → e.report ≡ unopened (Some refusal) → e.disk' ≡ e.disk → e.output' ≡ e.output →
      RanOver device (routed_plan files routed next) e a b
  ran_unread_script b routed name is refusal read report same silent =
      rw is (ran_unread device e (script_octets_plan files name) (λ (text : List ℕ). map_done (with_sources 1) (next (Some text))) a b 1 refusal read report same silent)

-- ---- what it stands for

module _ (archive : Archive) where
  abbrev tables : List (List ℕ)
  tables = archive.head.tables

  abbrev names : List (List ℕ)
  names = names_in archive.head.mdb archive.history

  same_script : (text : List ℕ) (x y : List TypedStatement) → IsRouteScript archive text (Ok x) → IsRouteScript archive text (Ok y) → x ≡ y
  same_script text x y h k =
      let same : ◌≡◌ {A = Result (List TypedStatement) Refusal} (Ok x) (Ok y) = one_script_answer ScriptPlace.Route tables names text (Ok x) (Ok y) h k in cc

  apart : (text : List ℕ) (x : List TypedStatement) (refusal : Refusal) → IsRouteScript archive text (Ok x) →
      IsRouteScript archive text (Err refusal) → ⊥
  apart text x refusal h k =
      let same : ◌≡◌ {A = Result (List TypedStatement) Refusal} (Ok x) (Err refusal) = one_script_answer ScriptPlace.Route tables names text (Ok x) (Err refusal) h k in absurd (cc (same))

  -- a load has one route, or one refusal of it
  one_route_answer : (text : Option (List ℕ)) (a b : Result (List RouteStatement) Refusal) → IsRouteAnswer archive text a → IsRouteAnswer archive text b → a ≡ b
  one_route_answer None a b h k = h ∙ sym k
  one_route_answer (Some text) (Ok a) (Ok b) h k = ap Ok (h.2 ∙ ap route_statements (same_script text h.0 k.0 h.1 k.1) ∙ sym k.2)
  one_route_answer (Some text) (Ok a) (Err b) h k = absurd (apart text h.0 b h.1 k)
  one_route_answer (Some text) (Err a) (Ok b) h k = absurd (apart text k.0 a k.1 h)
  one_route_answer (Some text) (Err a) (Err b) h k =
      let same : ◌≡◌ {A = Result (List TypedStatement) Refusal} (Err a) (Err b) = one_script_answer ScriptPlace.Route tables names text (Err a) (Err b) h k in
      let is : a ≡ b = cc in ap Err is

-- ---- which answer is due

pub route_determined : (s : Progress) (archive : Archive) (text : Option (List ℕ)) → IsDetermined (route_plan s archive text)
route_determined s archive text = (one_route_answer archive text, λ answer is. answered_determined s answer)

pub route_read_determined : (all : Files) (name : Option (List ℕ)) (next : Option (List ℕ) → CommandPlan Progress ⊥) → ((text : Option (List ℕ)) → IsDetermined (next text)) →
    IsDetermined (routed_plan (Some all) name next)
route_read_determined all None next each = each None
route_read_determined all (Some name) next each =
    determined (map_done nothing_done (script_octets_plan (Some all) name 0)) (λ (text : List ℕ). map_done (with_sources 1) (next (Some text)))
    (determined_map_done nothing_done (script_octets_plan (Some all) name 0) (reads_determined ScriptOctets (λ octets. octets) all name 0))
    (λ text. determined_map_done (with_sources 1) (next (Some text)) (each (Some text)))
