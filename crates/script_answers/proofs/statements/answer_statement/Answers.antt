use Rattle.std.proofs.Common.{[], Ok, refl, arith}
use Rattle.archive_store.specs.Pages.{TellsRows}
use Rattle.archive_store.specs.StoreView.{archive_of}
use Rattle.archive_store.specs.ReadOn.{read_none}
use Rattle.line_buffer.proofs.PrintedTexts.{rows_printed}
use Rattle.script_answers.specs.Statements.{statement_text}
use Rattle.script_answers.proofs.statements.answer_statement.Goals as goal
use Rattle.script_answers.proofs.Unprinted.{in_memory, none_printed, still_calm}

-- the records of a table stand in memory
pub returns-in-ShowHistogram-clause-printed : goal.returns-in-ShowHistogram-clause-printed
returns-in-ShowHistogram-clause-printed g c =
    let old = c.args.store.now in
    let text = statement_text (archive_of old) c.args.statement.now in
    rows_printed (TellsRows g.D.Disk.device old) c.print_spans.result (g.K.Sink.state c.args.sink.now) (g.K.Sink.state c.print_spans.new.sink) c.args.line_buffer.now text text c.print_spans.new.line_buffer (λ tells. refl)
    (rw c.in-ShowHistogram.is c.print_spans.ensures)

pub returns-in-ShowHistogram-clause-steps : goal.returns-in-ShowHistogram-clause-steps
returns-in-ShowHistogram-clause-steps g c tells = omega arith

pub returns-in-ShowHistogram-clause-refused : goal.returns-in-ShowHistogram-clause-refused
returns-in-ShowHistogram-clause-refused g c =
    in_memory g.D.Disk.device c.args.store.now c.args.store.now refl c.print_spans.result (g.K.Sink.state c.args.sink.now) (g.K.Sink.state c.print_spans.new.sink) _ c.print_spans.new.line_buffer c.print_spans.ensures

pub returns-in-ShowHistogram-clause-no_fault : goal.returns-in-ShowHistogram-clause-no_fault
returns-in-ShowHistogram-clause-no_fault g c = still_calm g.D.Disk.device c.args.store.now c.args.store.now refl c.print_spans.result

pub returns-in-ShowHistogram-clause-same : goal.returns-in-ShowHistogram-clause-same
returns-in-ShowHistogram-clause-same g c = read_none g.D.Disk.device c.args.store.now

-- what is neither a query nor SHOW has no answer

pub returns-in-CreateTable-clause-printed : goal.returns-in-CreateTable-clause-printed
returns-in-CreateTable-clause-printed g c =
    let first = g.K.Sink.state c.args.sink.now in
    rows_printed (TellsRows g.D.Disk.device c.args.store.now) (Ok (tt {0})) first first c.args.line_buffer.now [] (statement_text (archive_of c.args.store.now) c.args.statement.now) c.args.line_buffer.now (λ tells. rw c.in-CreateTable.is refl)
    (none_printed first c.args.line_buffer.now c.requires.room)

pub returns-in-CreateTable-clause-steps : goal.returns-in-CreateTable-clause-steps
returns-in-CreateTable-clause-steps g c tells = omega arith

pub returns-in-CreateTable-clause-same : goal.returns-in-CreateTable-clause-same
returns-in-CreateTable-clause-same g c = read_none g.D.Disk.device c.args.store.now

pub returns-in-CreateStream-clause-printed : goal.returns-in-CreateStream-clause-printed
returns-in-CreateStream-clause-printed g c =
    let first = g.K.Sink.state c.args.sink.now in
    rows_printed (TellsRows g.D.Disk.device c.args.store.now) (Ok (tt {0})) first first c.args.line_buffer.now [] (statement_text (archive_of c.args.store.now) c.args.statement.now) c.args.line_buffer.now (λ tells. rw c.in-CreateStream.is refl)
    (none_printed first c.args.line_buffer.now c.requires.room)

pub returns-in-CreateStream-clause-steps : goal.returns-in-CreateStream-clause-steps
returns-in-CreateStream-clause-steps g c tells = omega arith

pub returns-in-CreateStream-clause-same : goal.returns-in-CreateStream-clause-same
returns-in-CreateStream-clause-same g c = read_none g.D.Disk.device c.args.store.now

pub returns-in-Insert-clause-printed : goal.returns-in-Insert-clause-printed
returns-in-Insert-clause-printed g c =
    let first = g.K.Sink.state c.args.sink.now in
    rows_printed (TellsRows g.D.Disk.device c.args.store.now) (Ok (tt {0})) first first c.args.line_buffer.now [] (statement_text (archive_of c.args.store.now) c.args.statement.now) c.args.line_buffer.now (λ tells. rw c.in-Insert.is refl)
    (none_printed first c.args.line_buffer.now c.requires.room)

pub returns-in-Insert-clause-steps : goal.returns-in-Insert-clause-steps
returns-in-Insert-clause-steps g c tells = omega arith

pub returns-in-Insert-clause-same : goal.returns-in-Insert-clause-same
returns-in-Insert-clause-same g c = read_none g.D.Disk.device c.args.store.now
