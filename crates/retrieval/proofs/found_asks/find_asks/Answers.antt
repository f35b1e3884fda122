use Rattle.std.proofs.Common.{◌≡◌, ◌∙◌, List, [], ◌∷◌, ◌++◌, length, None, refl, sym, ap, subst, arith, append-nil, append_assoc}
use Rattle.std.specs.Prelude.{◌⊎◌, Some}
use Rattle.refusals.specs.declared.refusal.Refusal.TheVariants.{OutOfMemory}
use Rattle.archive_store.proofs.Calls.{passed_on}
use Rattle.asks.specs.declared.ask.Ask.{Ask}
use Rattle.retrieval.specs.AskText.{asks_refusal}
use Rattle.retrieval.specs.declared.found_asks.FoundAsk.{FoundAsk}
use Rattle.retrieval.specs.FoundAsks.{AreFound, ask_found, asks_found}
use Rattle.retrieval.proofs.FoundAsks.{asks_push, found_push, next_refused, none_refused}
use Rattle.retrieval.proofs.found_asks.find_asks.Goals as goal

no_asks : (asks : List Ask) → length asks ≡ 0 → asks ≡ []
no_asks [] none = refl
no_asks (ask ∷ asks) none = absurd (omega (arith, none))

pub loop-ask-init : goal.loop-ask-init
loop-ask-init g c =
    let gives : c.into_iter-ask-iterator.result.rest.items ≡ c.args.asks = (let s = c.into_iter-ask-iterator.ensures.into_iter_gives in cc) ∙ c.into_vec-ask-items.ensures in
    record {
      left = ap (λ (l : List FoundAsk). asks_found l ++ c.into_iter-ask-iterator.result.rest.items) c.new-found.ensures ∙ gives;
      found = subst (AreFound c.args.store.now.head c.args.store.now.history) (sym c.new-found.ensures) tt;
    }

pub loop-ask-preserved : goal.loop-ask-preserved
loop-ask-preserved g c =
    let head = c.args.store.now.head in
    let history = c.args.store.now.history in
    let step : c.loop-ask.ask-iterator.rest.items ≡ c.in-Some.ask ∷ c.next.new.self.rest.items = let s = c.in-Some.ensures.steps in cc in
    let rest = c.next.new.self.rest.items in
    let found = c.loop-ask.found in
    let one = c.in_ok-one.one in
    let inv = c.loop-ask.invariant in
    let pushed = c.in_ok-push.ensures.ok in
    record {
      left = ap (λ (l : List FoundAsk). asks_found l ++ rest) pushed ∙ ap (λ (l : List Ask). l ++ rest) (asks_push found one)
          ∙ append_assoc (asks_found found) (ask_found one ∷ []) rest ∙ ap (λ (a : Ask). asks_found found ++ a ∷ rest) c.in_ok-one.ensures.asked
          ∙ ap (λ (l : List Ask). asks_found found ++ l) (sym step) ∙ inv.left;
      found = subst (AreFound head history) (sym pushed) (found_push head history found one inv.found c.in_ok-one.ensures.found);
    }

pub returns-in_err-one-clause-refused : goal.returns-in_err-one-clause-refused
returns-in_err-one-clause-refused g c =
    let step : c.loop-ask.ask-iterator.rest.items ≡ c.in-Some.ask ∷ c.next.new.self.rest.items = let s = c.in-Some.ensures.steps in cc in
    let found = c.loop-ask.found in
    let left = ap (λ (l : List Ask). asks_found found ++ l) (sym step) ∙ c.loop-ask.invariant.left in
    let refusal = c.in_err-one.field-0.0 in
    passed_on c.from_residual.result refusal (λ e. (asks_refusal c.args.store.now.head c.args.store.now.history c.args.asks ≡ Some e) ⊎ (e ≡ OutOfMemory)) c.from_residual.ensures.1
    (next_refused c.args.store.now.head c.args.store.now.history found c.in-Some.ask c.next.new.self.rest.items c.args.asks refusal c.loop-ask.invariant.found left c.in_err-one.ensures.refused)

pub returns-clause-asked : goal.returns-clause-asked
returns-clause-asked g c =
    let rest = c.loop-ask.ask-iterator.rest.items in
    let found = c.loop-ask.found in
    let none : rest ≡ [] = no_asks rest (omega (arith, c.in-None.ensures.steps.0, c.loop-ask.ask-iterator.rest.ok.0)) in
    sym (append-nil (asks_found found)) ∙ ap (λ (l : List Ask). asks_found found ++ l) (sym none) ∙ c.loop-ask.invariant.left

pub returns-clause-answerable : goal.returns-clause-answerable
returns-clause-answerable g c =
    let head = c.args.store.now.head in
    let history = c.args.store.now.history in
    subst (λ (l : List Ask). asks_refusal head history l ≡ None) (returns-clause-asked g c) (none_refused head history c.loop-ask.found c.loop-ask.invariant.found)
