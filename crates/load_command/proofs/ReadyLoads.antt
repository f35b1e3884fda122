-- What is ready of a load once there's a link for each of its dumps.
use Rattle.std.proofs.Common.{◌≡◌, List, None, inr}
use Rattle.std.specs.Prelude.{Err, IfErr, IfOk, Ok, Result}
use Rattle.asks.specs.declared.ask.Ask.{Ask}
use Rattle.refusals.specs.declared.refusal.Refusal.{Refusal}
use Rattle.archive_store.specs.Entries.{Archive}
use Rattle.ask_answers.specs.Asks.{AreAnswerable}
use Rattle.command_words.specs.LoadLimits.{links_refusal}
use Rattle.stream_graph.specs.declared.statement.RouteStatement.{RouteStatement}
use Rattle.load_command.specs.Loading.{IsReady, IsRouteAnswer, IsRouteOrSheetRefused, IsUnready, LoadAsked}

module _ {X : Type 0} (archive : Archive) (asked : LoadAsked) (none : links_refusal asked.words ≡ None) where
  pub made_ready : (route : X → List RouteStatement) (asks : X → List Ask) (r : Result X Refusal) → IfOk r (λ x. IsRouteAnswer archive asked.text (Ok (route x))) → IfOk r (λ x. AreAnswerable archive asked.sheet (asks x))
      → IfOk r (λ x. IsReady archive asked (route x) (asks x))
  made_ready route asks (Ok x) answered answerable = (none, answered, answerable)
  made_ready route asks (Err refusal) answered answerable = tt

  pub not_ready : (r : Result X Refusal) → IfErr r (IsRouteOrSheetRefused archive asked.text asked.sheet) → IfErr r (IsUnready archive asked)
  not_ready (Ok x) refused = tt
  not_ready (Err refusal) refused = inr (none, refused)
