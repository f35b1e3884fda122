use Rattle.std.proofs.Common.{◌++◌, Err, ap, refl, sym, subst}
use Rattle.std.proofs.lemmas.Result.{err_from_is_err_and}
use Rattle.std.specs.Arc.{arc_value}
use Rattle.asks.specs.declared.ask.Ask.TheVariants.{Values}
use Rattle.outer_traits.specs.declared.print_fault.PrintFault.{PrintFault}
use Rattle.archive_store.specs.Pages.{TellsRows}
use Rattle.archive_store.specs.PrintFaults.{IsPrintFault}
use Rattle.archive_store.specs.StoreView.{filled_of}
use Rattle.archive_store.proofs.ReadOn.{reads_calm, reads_on}
use Rattle.line_buffer.proofs.LineBuffers.{buffered_front, buffered_none}
use Rattle.line_buffer.proofs.PrintedTexts.{rows_unread}
use Rattle.retrieval.specs.AnswerText.{answer_lines}
use Rattle.retrieval.proofs.PrintFaults.{unread_on, unread_part, unread_print}
use Rattle.ask_answers.specs.Asks.{archive_ask_text}
use Rattle.ask_answers.proofs.AskSheets.{found_text}
use Rattle.ask_answers.proofs.answers.print_values.Goals as goal

-- ---- rows aren't read

pub returns-in-Err-clause-printed : goal.returns-in-Err-clause-printed
returns-in-Err-clause-printed g c =
    let first = g.K.Sink.state c.args.sink.now in
    let w = first.written in
    let text = archive_ask_text (filled_of c.args.store.now) c.args.k (Values c.args.found.now.request) in
    let all = c.args.line_buffer.now ++ text in
    rows_unread (TellsRows g.D.Disk.device c.args.store.now) {X = Unit {0}} (Err c.print_fault_of.result) first c.args.line_buffer.now text c.args.line_buffer.now
    (unread_part {X = Unit {0}} (Err c.print_fault_of.result) c.in-Err.fault first first all c.args.line_buffer.now (ap (λ (e : PrintFault). Err e) c.print_fault_of.ensures) (record { some = buffered_front w w all all (buffered_none w all); no_fault = refl }))

pub returns-in-Err-clause-refused : goal.returns-in-Err-clause-refused
returns-in-Err-clause-refused g c =
    let device = g.D.Disk.device in
    let old = c.args.store.now in
    let new = c.answer_request.new.store in
    subst (IsPrintFault device old new) (sym c.print_fault_of.ensures) (unread_print device old new c.in-Err.fault c.in-Err.ensures.refused c.in-Err.ensures.same)

pub returns-in-Err-clause-same : goal.returns-in-Err-clause-same
returns-in-Err-clause-same g c = unread_on g.D.Disk.device c.args.store.now c.answer_request.new.store c.in-Err.fault c.in-Err.ensures.refused c.in-Err.ensures.same

-- ---- a write failed

pub returns-in_err-print_found-in-Ok-clause-printed : goal.returns-in_err-print_found-in-Ok-clause-printed
returns-in_err-print_found-in-Ok-clause-printed g c =
    let found = c.args.found.now in
    let answer = c.in-Ok.answer in
    let p = err_from_is_err_and c.from_residual.result c.from_residual.ensures.1 in
    rw (p.1, p.2) (
      answer_lines c.args.k answer.front (arc_value found.mdb) found.number answer.cells,
      λ tells. found_text (filled_of c.args.store.now) c.args.k found answer c.requires.found (c.in-Ok.ensures.filled tells),
      c.in_err-print_found-in-Ok.ensures,
    )

pub returns-in_err-print_found-in-Ok-clause-refused : goal.returns-in_err-print_found-in-Ok-clause-refused
returns-in_err-print_found-in-Ok-clause-refused g c =
    let p = err_from_is_err_and c.from_residual.result c.from_residual.ensures.1 in
    rw (p.1, p.2) (reads_calm g.D.Disk.device c.args.store.now c.answer_request.new.store c.in-Ok.ensures.same)

pub returns-in_err-print_found-in-Ok-clause-same : goal.returns-in_err-print_found-in-Ok-clause-same
returns-in_err-print_found-in-Ok-clause-same g c = reads_on g.D.Disk.device c.args.store.now c.answer_request.new.store c.in-Ok.ensures.same

-- ---- all was printed

pub returns-in_ok-print_found-in-Ok-clause-printed : goal.returns-in_ok-print_found-in-Ok-clause-printed
returns-in_ok-print_found-in-Ok-clause-printed g c =
    let found = c.args.found.now in
    let answer = c.in-Ok.answer in (
      answer_lines c.args.k answer.front (arc_value found.mdb) found.number answer.cells,
      λ tells. found_text (filled_of c.args.store.now) c.args.k found answer c.requires.found (c.in-Ok.ensures.filled tells),
      c.in_ok-print_found-in-Ok.ensures,
    )

pub returns-in_ok-print_found-in-Ok-clause-no_fault : goal.returns-in_ok-print_found-in-Ok-clause-no_fault
returns-in_ok-print_found-in-Ok-clause-no_fault g c = reads_calm g.D.Disk.device c.args.store.now c.answer_request.new.store c.in-Ok.ensures.same

pub returns-in_ok-print_found-in-Ok-clause-same : goal.returns-in_ok-print_found-in-Ok-clause-same
returns-in_ok-print_found-in-Ok-clause-same g c = reads_on g.D.Disk.device c.args.store.now c.answer_request.new.store c.in-Ok.ensures.same
