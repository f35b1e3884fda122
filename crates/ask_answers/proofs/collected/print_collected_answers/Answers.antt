use Rattle.std.proofs.Common.{◌≡◌, ◌∙◌, ◌+◌, ◌++◌, ◌<◌, ◌∷◌, List, length, drop, ap, arith, refl, subst, sym}
use Rattle.std.proofs.lemmas.List.{drop_more}
use Rattle.std.proofs.lemmas.Result.{err_from_is_err_and}
use Rattle.archive_store.specs.StoreView.{archive_of}
use Rattle.line_buffer.proofs.LineBuffers.{buffered_more, buffered_none, buffered_some}
use Rattle.live_asks.specs.declared.answered.AskAnswer.{AskAnswer}
use Rattle.retrieval.specs.declared.found_asks.FoundAsk.{FoundAsk}
use Rattle.retrieval.specs.FoundAsks.{AreFound, ask_found, asks_found}
use Rattle.ask_answers.specs.Collected.{AreAnswersTo, collected_answer_text, collected_answers_text}
use Rattle.ask_answers.proofs.AskSheets.{one_failed}
use Rattle.ask_answers.proofs.CollectedTexts.{as_many_found, next_collected}
use Rattle.ask_answers.proofs.collected.print_collected_answers.Goals as goal

pub loop-i-init : goal.loop-i-init
loop-i-init g c =
    let first = (g.K.Sink.state c.args.sink.now).written in
    let text = collected_answers_text (archive_of c.args.store.now) 1 (asks_found c.args.asks.now) c.args.answers.now in
    rw c.requires.empty (record {
      buffered = buffered_none first text;
      room = omega arith;
      found = c.requires.found;
      answered = c.requires.answered;
      as_many = as_many_found c.args.asks.now c.args.answers.now c.requires.answered;
      no_fault = refl;
    })

pub loop-i-preserved : goal.loop-i-preserved
loop-i-preserved g c =
    let store = c.args.store.now in
    let archive = archive_of store in
    let asks = c.args.asks.now in
    let answers = c.args.answers.now in
    let i = c.loop-i.i in
    let ask = c.index-asks-i.result in
    let answer = c.index-answers-i.result in
    let rest = drop (i + 1) asks in
    let more = drop (i + 1) answers in
    let first = (g.K.Sink.state c.args.sink.now).written in
    let now = (g.K.Sink.state c.loop-i.sink).written in
    let new = (g.K.Sink.state c.print_collected_answer.new.sink).written in
    let all = collected_answers_text archive 1 (asks_found asks) answers in
    let held = c.loop-i.line_buffer in
    let last = c.print_collected_answer.new.line_buffer in
    let lt : i < length asks = omega arith in
    let many = c.loop-i.invariant.as_many in
    let few : i < length answers = omega (arith, lt, many) in
    let step : drop i asks ≡ ask ∷ rest = drop_more asks i ask lt ∙ ap (λ (a : FoundAsk). a ∷ rest) (sym c.index-asks-i.is) in
    let next : drop i answers ≡ answer ∷ more = drop_more answers i answer few ∙ ap (λ (a : AskAnswer). a ∷ more) (sym c.index-answers-i.is) in
    let before = next_collected archive (i + 1) first now all held (asks_found (drop i asks)) (drop i answers) (ask_found ask) (asks_found rest) answer more (ap asks_found step) next c.loop-i.invariant.buffered in
    let here = subst (λ (l : List AskAnswer). AreAnswersTo (asks_found (drop i asks)) l) next c.loop-i.invariant.answered in
    record {
      buffered = buffered_more first now new all (held ++ collected_answer_text archive (i + 1) (ask_found ask) answer) last (collected_answers_text archive (i + 1 + 1) (asks_found rest) more) before c.in_ok-print_collected_answer.ensures.buffered;
      room = c.in_ok-print_collected_answer.ensures.room;
      found = (subst (AreFound store.head store.history) step c.loop-i.invariant.found).1;
      answered = (subst (λ (l : List FoundAsk). AreAnswersTo (asks_found l) (answer ∷ more)) step here).1;
      as_many = many;
      no_fault = c.in_ok-print_collected_answer.ensures.no_fault ∙ c.loop-i.invariant.no_fault;
    }

pub returns-in_err-print_collected_answer-clause-printed : goal.returns-in_err-print_collected_answer-clause-printed
returns-in_err-print_collected_answer-clause-printed g c =
    let archive = archive_of c.args.store.now in
    let asks = c.args.asks.now in
    let answers = c.args.answers.now in
    let i = c.loop-i.i in
    let ask = c.index-asks-i.result in
    let answer = c.index-answers-i.result in
    let rest = drop (i + 1) asks in
    let more = drop (i + 1) answers in
    let first = g.K.Sink.state c.args.sink.now in
    let now = g.K.Sink.state c.loop-i.sink in
    let new = g.K.Sink.state c.print_collected_answer.new.sink in
    let all = collected_answers_text archive 1 (asks_found asks) answers in
    let held = c.loop-i.line_buffer in
    let lt : i < length asks = omega arith in
    let many = c.loop-i.invariant.as_many in
    let few : i < length answers = omega (arith, lt, many) in
    let step : drop i asks ≡ ask ∷ rest = drop_more asks i ask lt ∙ ap (λ (a : FoundAsk). a ∷ rest) (sym c.index-asks-i.is) in
    let next : drop i answers ≡ answer ∷ more = drop_more answers i answer few ∙ ap (λ (a : AskAnswer). a ∷ more) (sym c.index-answers-i.is) in
    let before = next_collected archive (i + 1) first.written now.written all held (asks_found (drop i asks)) (drop i answers) (ask_found ask) (asks_found rest) answer more (ap asks_found step) next c.loop-i.invariant.buffered in
    let p = err_from_is_err_and c.from_residual.result c.from_residual.ensures.1 in
    one_failed c.from_residual.result p.0 _ first now new all _ _ c.print_collected_answer.new.line_buffer p.1 p.2 c.loop-i.invariant.no_fault c.in_err-print_collected_answer.ensures
    (λ some. buffered_some first.written now.written new.written all (held ++ collected_answer_text archive (i + 1) (ask_found ask) answer) (collected_answers_text archive (i + 1 + 1) (asks_found rest) more) before some)
