use Rattle.std.proofs.Common.{List, [], Ok, Err, length, refl, sym, ap, ◌∙◌, subst, arith}
use Rattle.std.specs.Prelude.{flat_map}
use Rattle.std.proofs.lemmas.Result.{err_from_is_err_and}
use Rattle.std.proofs.lemmas.List.{take_all}
use Rattle.std.proofs.lemmas.List.Elements.{All-from_recursion}
use Rattle.std.proofs.lemmas.List.Sums.{sum_by_more, sum_by_more_le, sum_by-take-le}
use Rattle.archive_store.specs.Entries.{Archive}
use Rattle.archive_store.specs.Pages.{TellsRows}
use Rattle.archive_store.specs.PrintFaults.{IsPrintFault}
use Rattle.archive_store.specs.StoreView.{StoreView, archive_of}
use Rattle.archive_store.proofs.Calls.{passed_on}
use Rattle.archive_store.specs.ReadOn.{read_more, read_none}
use Rattle.archive_store.proofs.ReadOn.{told_after}
use Rattle.ssql_types.specs.Laws.{NamesTables}
use Rattle.ssql_types.specs.declared.statement.TypedStatement.{TypedStatement}
use Rattle.line_buffer.specs.Printed.{PrintsRows}
use Rattle.script_answers.specs.Statements.{packet_names, statement_text, steps_of_statement}
use Rattle.script_answers.proofs.Unprinted.{none_printed}
use Rattle.script_answers.proofs.StatementLoop.{answers_fail, answers_then, print_fault_after, printed_later, same_archive}
use Rattle.script_answers.proofs.statements.answer_statements.Goals as goal

pub loop-statement-init : goal.loop-statement-init
loop-statement-init g c =
    let first = g.K.Sink.state c.args.sink.now in
    record {
      printed = ([], λ told. refl, none_printed first c.args.line_buffer.now c.requires.room);
      steps = λ told. omega arith;
      calm = refl;
      same = read_none g.D.Disk.device c.args.store.now;
    }

-- the names stay, and each statement names tables that there are
pub answer_statement-requires-clause-names : goal.answer_statement-requires-clause-names
answer_statement-requires-clause-names g c =
    c.requires.names ∙ sym (ap (λ (s : StoreView g.row.D.Denot). packet_names s.head s.history) c.loop-statement.invariant.same.same)

pub answer_statement-requires-clause-tables : goal.answer_statement-requires-clause-tables
answer_statement-requires-clause-tables g c =
    let P = λ (s : StoreView g.row.D.Denot) (statement : TypedStatement). NamesTables (length s.head.tables) statement in
    let old = c.args.store.now in
    let statement = c.statement-item.result in
    let here = subst (P old) (sym c.statement-item.is) (All-from_recursion (P old) c.args.statements.now c.requires.tables c.loop-statement.statement-index statement c.loop-statement-test.true) in
    subst (λ (s : StoreView g.row.D.Denot). P s statement) (sym c.loop-statement.invariant.same.same) here

pub answer_statement-requires-clause-room : goal.answer_statement-requires-clause-room
answer_statement-requires-clause-room g c = c.loop-statement.invariant.printed.2.room

pub loop-statement-preserved : goal.loop-statement-preserved
loop-statement-preserved g c =
    let device = g.D.Disk.device in
    let old = c.args.store.now in
    let mid = c.loop-statement.store in
    let on = c.loop-statement.invariant.same in
    let told = TellsRows device old in
    let text = statement_text (archive_of old) in
    let statement = c.statement-item.result in
    let i = c.loop-statement.statement-index in
    let first = g.K.Sink.state c.args.sink.now in
    let now = g.K.Sink.state c.loop-statement.sink in
    let new = g.K.Sink.state c.answer_statement.new.sink in
    let left = c.loop-statement.line_buffer in
    let last = c.answer_statement.new.line_buffer in
    let printed = printed_later device old mid on (Ok (tt {0})) now new left (statement_text (archive_of mid) statement) last c.in_ok-answer_statement.ensures.printed in
    let here = subst (λ (a : Archive). PrintsRows {X = Unit {0}} told (Ok tt) now new left (statement_text a statement) last) (same_archive device old mid on) printed in
    let most = steps_of_statement old.history in
    let more = sum_by_more most c.args.statements.now i statement c.loop-statement-test.true in
    let own = ap most c.statement-item.is in
    let same = ap (λ (s : StoreView g.row.D.Denot). steps_of_statement s.history statement) on.same in
    record {
      printed = answers_then told text c.args.statements.now i statement c.loop-statement-test.true c.statement-item.is first now new c.args.line_buffer.now left last (tt {0}) (Ok (tt {0})) c.loop-statement.invariant.printed here;
      steps = λ tells.
          (let so_far = c.loop-statement.invariant.steps tells in
          let took = c.answer_statement.ensures.steps (told_after device old mid on tells) in
          omega (arith, took, same, more, own, so_far));
      calm = c.in_ok-answer_statement.ensures.no_fault ∙ c.loop-statement.invariant.calm;
      same = read_more device old mid c.answer_statement.new.store on c.answer_statement.ensures.same;
    }

pub returns-clause-printed : goal.returns-clause-printed
returns-clause-printed g c =
    let device = g.D.Disk.device in
    let old = c.args.store.now in
    subst (λ (l : List TypedStatement). PrintsRows {X = Unit {0}} (TellsRows device old) (Ok tt) (g.K.Sink.state c.args.sink.now) (g.K.Sink.state c.loop-statement.sink) c.args.line_buffer.now (flat_map (statement_text (archive_of old)) l) c.loop-statement.line_buffer)
    (take_all c.loop-statement.statement-index c.args.statements.now c.loop-statement-test.false) c.loop-statement.invariant.printed

pub returns-clause-steps : goal.returns-clause-steps
returns-clause-steps g c tells =
    let few = sum_by-take-le (steps_of_statement c.args.store.now.history) c.args.statements.now c.loop-statement.statement-index in
    let so_far = c.loop-statement.invariant.steps tells in
    omega (arith, few, so_far)

pub returns-in_err-answer_statement-clause-steps : goal.returns-in_err-answer_statement-clause-steps
returns-in_err-answer_statement-clause-steps g c tells =
    let device = g.D.Disk.device in
    let old = c.args.store.now in
    let mid = c.loop-statement.store in
    let on = c.loop-statement.invariant.same in
    let statement = c.statement-item.result in
    let most = steps_of_statement old.history in
    let more = sum_by_more_le most c.args.statements.now c.loop-statement.statement-index statement c.loop-statement-test.true in
    let own = ap most c.statement-item.is in
    let same = ap (λ (s : StoreView g.row.D.Denot). steps_of_statement s.history statement) on.same in
    let so_far = c.loop-statement.invariant.steps tells in
    let took = c.answer_statement.ensures.steps (told_after device old mid on tells) in
    omega (arith, took, same, more, own, so_far)

pub returns-in_err-answer_statement-clause-printed : goal.returns-in_err-answer_statement-clause-printed
returns-in_err-answer_statement-clause-printed g c =
    let device = g.D.Disk.device in
    let old = c.args.store.now in
    let mid = c.loop-statement.store in
    let on = c.loop-statement.invariant.same in
    let told = TellsRows device old in
    let text = statement_text (archive_of old) in
    let statement = c.statement-item.result in
    let p = err_from_is_err_and c.from_residual.result c.from_residual.ensures.1 in
    let first = g.K.Sink.state c.args.sink.now in
    let now = g.K.Sink.state c.loop-statement.sink in
    let new = g.K.Sink.state c.answer_statement.new.sink in
    let left = c.loop-statement.line_buffer in
    let last = c.answer_statement.new.line_buffer in
    let failed : PrintsRows {X = Unit {0}} (TellsRows device mid) (Err p.0) now new left (statement_text (archive_of mid) statement) last = rw p.2 c.in_err-answer_statement.ensures.printed in
    let here = subst (λ (a : Archive). PrintsRows {X = Unit {0}} told (Err p.0) now new left (statement_text a statement) last) (same_archive device old mid on)
    (printed_later device old mid on {X = Unit {0}} (Err p.0) now new left (statement_text (archive_of mid) statement) last failed) in
    answers_fail told text c.args.statements.now c.loop-statement.statement-index statement c.loop-statement-test.true c.statement-item.is first now new c.args.line_buffer.now left last (Unit {0}) (tt {0}) c.from_residual.result p.0 p.1
    c.loop-statement.invariant.printed here

pub returns-in_err-answer_statement-clause-refused : goal.returns-in_err-answer_statement-clause-refused
returns-in_err-answer_statement-clause-refused g c =
    let device = g.D.Disk.device in
    let old = c.args.store.now in
    let mid = c.loop-statement.store in
    let new = c.answer_statement.new.store in
    let fault = c.in_err-answer_statement.field-0.0 in
    passed_on c.from_residual.result fault (IsPrintFault device old new) c.from_residual.ensures.1
    (print_fault_after device old mid c.loop-statement.invariant.same c.loop-statement.invariant.calm new fault c.in_err-answer_statement.ensures.refused)

pub returns-in_err-answer_statement-clause-same : goal.returns-in_err-answer_statement-clause-same
returns-in_err-answer_statement-clause-same g c =
    read_more g.D.Disk.device c.args.store.now c.loop-statement.store c.answer_statement.new.store c.loop-statement.invariant.same c.answer_statement.ensures.same

pub returns-clause-no_fault : goal.returns-clause-no_fault
returns-clause-no_fault g c = c.loop-statement.invariant.calm
