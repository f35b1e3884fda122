use Rattle.std.proofs.Common.{◌≡◌, ◌∙◌, ◌+◌, ◌++◌, ◌<◌, ◌∷◌, List, [], Ok, Err, length, drop, ap, append-nil, arith, refl, subst, sym}
use Rattle.std.proofs.lemmas.List.{drop_all, drop_more, length-map}
use Rattle.std.proofs.lemmas.List.Sums.{sum_by_more, sum_by_more_le, sum_by-take-le}
use Rattle.std.proofs.lemmas.Result.{err_from_is_err_and}
use Rattle.archive_store.specs.Pages.{TellsRows}
use Rattle.archive_store.specs.PrintFaults.{IsPrintFault}
use Rattle.archive_store.specs.StoreView.{StoreView, filled_of}
use Rattle.archive_store.proofs.Calls.{passed_on}
use Rattle.archive_store.specs.ReadOn.{read_more, read_none}
use Rattle.archive_store.proofs.ReadOn.{told_after}
use Rattle.line_buffer.specs.Printed.{PrintsRows}
use Rattle.line_buffer.proofs.PrintedTexts.{nothing_printed}
use Rattle.ask_answers.specs.Asks.{archive_ask_text, archive_asks_text, steps_of_ask}
use Rattle.retrieval.specs.declared.found_asks.FoundAsk.{FoundAsk}
use Rattle.retrieval.specs.FoundAsks.{AreFound, IsAskFound, ask_found, asks_found}
use Rattle.retrieval.proofs.PrintFaults.{print_fault_then}
use Rattle.ask_answers.proofs.AskSheets.{asks_fail, asks_on, next_asks}
use Rattle.ask_answers.proofs.AskSteps.{same_steps}
use Rattle.ask_answers.proofs.answers.print_asks.Goals as goal

pub loop-i-init : goal.loop-i-init
loop-i-init g c = record {
  text = ([], λ told. refl, rw c.requires.empty (nothing_printed (g.K.Sink.state c.args.sink.now) [] (omega arith)));
  found = c.requires.found;
  read = read_none g.D.Disk.device c.args.store.now;
  calm = refl;
  steps = λ told. omega arith;
}

pub print_ask-requires-clause-found : goal.print_ask-requires-clause-found
print_ask-requires-clause-found g c =
    let asks = c.args.asks.now in
    let i = c.loop-i.i in
    let ask = c.index-asks-i.result in
    let rest = drop (i + 1) asks in
    let lt : i < length asks = omega arith in
    let step : drop i asks ≡ ask ∷ rest = drop_more asks i ask lt ∙ ap (λ (a : FoundAsk). a ∷ rest) (sym c.index-asks-i.is) in
    let store = c.args.store.now in
    let here : IsAskFound store.head store.history ask = (subst (AreFound store.head store.history) step c.loop-i.invariant.found).0 in
    subst (λ (x : StoreView g.row.D.Denot). IsAskFound x.head x.history ask) (sym c.loop-i.invariant.read.same) here

pub print_ask-requires-clause-room : goal.print_ask-requires-clause-room
print_ask-requires-clause-room g c = c.loop-i.invariant.text.2.room

pub loop-i-preserved : goal.loop-i-preserved
loop-i-preserved g c =
    let device = g.D.Disk.device in
    let old = c.args.store.now in
    let mid = c.loop-i.store in
    let inv = c.loop-i.invariant in
    let told = TellsRows device old in
    let filled = filled_of old in
    let asks = c.args.asks.now in
    let i = c.loop-i.i in
    let ask = c.index-asks-i.result in
    let rest = drop (i + 1) asks in
    let first = g.K.Sink.state c.args.sink.now in
    let now = g.K.Sink.state c.loop-i.sink in
    let new = g.K.Sink.state c.print_ask.new.sink in
    let held = c.loop-i.line_buffer in
    let last = c.print_ask.new.line_buffer in
    let lt : i < length asks = omega arith in
    let step : drop i asks ≡ ask ∷ rest = drop_more asks i ask lt ∙ ap (λ (a : FoundAsk). a ∷ rest) (sym c.index-asks-i.is) in
    let all = archive_asks_text filled 1 (asks_found asks) in
    let left = archive_asks_text filled (i + 1) (asks_found (drop i asks)) in
    let text = archive_ask_text filled (i + 1) (ask_found ask) in
    let more = archive_asks_text filled (i + 1 + 1) (asks_found rest) in
    let next = next_asks filled (i + 1) (asks_found (drop i asks)) (ask_found ask) (asks_found rest) (ap asks_found step) in
    let here = subst (λ (x : StoreView g.row.D.Denot). PrintsRows {X = Unit {0}} (TellsRows device x) (Ok tt) now new held (archive_ask_text (filled_of x) (i + 1) (ask_found ask)) last) inv.read.same c.in_ok-print_ask.ensures.printed in
    let most = steps_of_ask old in
    let more_steps = sum_by_more most asks i ask lt in
    let own = ap most c.index-asks-i.is in
    let same = same_steps device old mid inv.read ask in
    record {
      text = asks_on told first now new inv.text.0 held left all text more inv.text.1 inv.text.2 next (tt {0}) last here;
      found = (subst (AreFound old.head old.history) step inv.found).1;
      read = read_more device old mid c.print_ask.new.store inv.read c.print_ask.ensures.same;
      calm = c.in_ok-print_ask.ensures.no_fault ∙ inv.calm;
      steps = λ tells.
          (let took = c.print_ask.ensures.steps (told_after device old mid inv.read tells) in
          let so_far = inv.steps tells in
          omega (arith, took, same, more_steps, own, so_far));
    }

-- ---- one failed

pub returns-in_err-print_ask-clause-printed : goal.returns-in_err-print_ask-clause-printed
returns-in_err-print_ask-clause-printed g c =
    let device = g.D.Disk.device in
    let old = c.args.store.now in
    let mid = c.loop-i.store in
    let inv = c.loop-i.invariant in
    let told = TellsRows device old in
    let filled = filled_of old in
    let asks = c.args.asks.now in
    let i = c.loop-i.i in
    let ask = c.index-asks-i.result in
    let rest = drop (i + 1) asks in
    let first = g.K.Sink.state c.args.sink.now in
    let now = g.K.Sink.state c.loop-i.sink in
    let new = g.K.Sink.state c.print_ask.new.sink in
    let held = c.loop-i.line_buffer in
    let last = c.print_ask.new.line_buffer in
    let lt : i < length asks = omega arith in
    let step : drop i asks ≡ ask ∷ rest = drop_more asks i ask lt ∙ ap (λ (a : FoundAsk). a ∷ rest) (sym c.index-asks-i.is) in
    let all = archive_asks_text filled 1 (asks_found asks) in
    let left = archive_asks_text filled (i + 1) (asks_found (drop i asks)) in
    let text = archive_ask_text filled (i + 1) (ask_found ask) in
    let more = archive_asks_text filled (i + 1 + 1) (asks_found rest) in
    let next = next_asks filled (i + 1) (asks_found (drop i asks)) (ask_found ask) (asks_found rest) (ap asks_found step) in
    let p = err_from_is_err_and c.from_residual.result c.from_residual.ensures.1 in
    let here = subst (λ (x : StoreView g.row.D.Denot). PrintsRows {X = Unit {0}} (TellsRows device x) (Err p.0) now new held (archive_ask_text (filled_of x) (i + 1) (ask_found ask)) last) inv.read.same (rw p.2 c.in_err-print_ask.ensures.printed) in
    asks_fail told first now new inv.text.0 held left all text more inv.text.1 inv.text.2 next (Unit {0}) c.from_residual.result p.0 last p.1 here

pub returns-in_err-print_ask-clause-refused : goal.returns-in_err-print_ask-clause-refused
returns-in_err-print_ask-clause-refused g c =
    let device = g.D.Disk.device in
    let old = c.args.store.now in
    let new = c.print_ask.new.store in
    passed_on c.from_residual.result c.in_err-print_ask.field-0.0 (IsPrintFault device old new) c.from_residual.ensures.1
    (print_fault_then device old c.loop-i.store new c.in_err-print_ask.field-0.0 c.loop-i.invariant.read c.loop-i.invariant.calm c.in_err-print_ask.ensures.refused)

pub returns-in_err-print_ask-clause-same : goal.returns-in_err-print_ask-clause-same
returns-in_err-print_ask-clause-same g c = read_more g.D.Disk.device c.args.store.now c.loop-i.store c.print_ask.new.store c.loop-i.invariant.read c.print_ask.ensures.same

pub returns-in_err-print_ask-clause-asked : goal.returns-in_err-print_ask-clause-asked
returns-in_err-print_ask-clause-asked g c =
    let lt : c.loop-i.i < length c.args.asks.now = omega arith in
    let same = length-map c.args.asks.now ask_found in
    let p = err_from_is_err_and c.from_residual.result c.from_residual.ensures.1 in
    rw p.1 (omega (arith, lt, same))

pub returns-in_err-print_ask-clause-steps : goal.returns-in_err-print_ask-clause-steps
returns-in_err-print_ask-clause-steps g c = λ tells.
    let device = g.D.Disk.device in
    let old = c.args.store.now in
    let asks = c.args.asks.now in
    let i = c.loop-i.i in
    let ask = c.index-asks-i.result in
    let lt : i < length asks = omega arith in
    let most = steps_of_ask old in
    let took = c.print_ask.ensures.steps (told_after device old c.loop-i.store c.loop-i.invariant.read tells) in
    let same = same_steps device old c.loop-i.store c.loop-i.invariant.read ask in
    let more = sum_by_more_le most asks i ask lt in
    let own = ap most c.index-asks-i.is in
    let so_far = c.loop-i.invariant.steps tells in
    omega (arith, took, same, more, own, so_far)

-- ---- all were answered

pub returns-clause-steps : goal.returns-clause-steps
returns-clause-steps g c = λ tells.
    let few = sum_by-take-le (steps_of_ask c.args.store.now) c.args.asks.now c.loop-i.i in
    let so_far = c.loop-i.invariant.steps tells in
    omega (arith, few, so_far)

pub returns-clause-printed : goal.returns-clause-printed
returns-clause-printed g c =
    let filled = filled_of c.args.store.now in
    let asks = c.args.asks.now in
    let i = c.loop-i.i in
    let inv = c.loop-i.invariant in
    let none : drop i asks ≡ [] = drop_all i asks (omega (arith, c.loop-i-test.false)) in
    (inv.text.0, (λ tells. sym (append-nil inv.text.0) ∙ sym (ap (λ (l : List FoundAsk). inv.text.0 ++ archive_asks_text filled (i + 1) (asks_found l)) none) ∙ inv.text.1 tells), inv.text.2)

pub returns-clause-no_fault : goal.returns-clause-no_fault
returns-clause-no_fault g c = c.loop-i.invariant.calm

pub returns-clause-same : goal.returns-clause-same
returns-clause-same g c = c.loop-i.invariant.read
