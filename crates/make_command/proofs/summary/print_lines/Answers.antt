use Rattle.std.proofs.Common.{◌≡◌, ◌∙◌, ◌++◌, List, ℕ, refl, ap, subst}
use Rattle.std.proofs.lemmas.Result.{err_from_is_err_and}
use Rattle.line_buffer.specs.Printed.{IsCutOff, IsPrinted}
use Rattle.line_buffer.proofs.PrintedTexts.{cut_front, failed_front, printed_cut, printed_on}
use Rattle.archive_commands.specs.Verify.{sound_line}
use Rattle.archive_store.specs.StoreView.{archive_of, filled_of}
use Rattle.script_answers.specs.Statements.{records_text}
use Rattle.script_answers.proofs.Unprinted.{unprinted}
use Rattle.make_command.specs.Summary.{summary_text}
use Rattle.make_command.specs.Summing.{count_lines}
use Rattle.make_command.proofs.SummaryTexts.{first_table, front_text, printed_then_failed, summary_is}
use Rattle.make_command.proofs.summary.print_lines.Goals as goal

-- no memory
pub returns-in_default : goal.returns-in_default
returns-in_default g c =
    let summed = c.args.summed in
    let text = summary_text summed.seed summed.counts.packets summed.counts.duplicates (filled_of c.args.store.now) in
    (text, (λ of. refl), unprinted (g.K.Sink.state c.args.sink.now) text)

pub print_records-requires-clause-tables : goal.print_records-requires-clause-tables
print_records-requires-clause-tables g c = first_table c.args.store.now.head.tables c.is_kept.ensures.head.0

-- the lines in front weren't written
pub returns-in_err-flush_if_full : goal.returns-in_err-flush_if_full
returns-in_err-flush_if_full g c =
    let s = c.args.summed in
    let first = g.K.Sink.state c.args.sink.now in
    let now = g.K.Sink.state c.flush_if_full.new.sink in
    let front = front_text s.seed s.counts s.sound s.cells in
    let records = records_text (archive_of c.args.store.now) 0 in
    let end = sound_line s.sound.rows s.sound.intervals s.sound.late in
    let held : c.put_cells.new.line_buffer ≡ front = c.put_cells.ensures ∙ ap (λ (l : List ℕ). l ++ count_lines s.cells) c.put_made.ensures.made in
    let cut : IsCutOff first now front = subst (λ (l : List ℕ). IsCutOff first now l) held c.in_err-flush_if_full.ensures in
    let p = err_from_is_err_and c.from_residual.result c.from_residual.ensures.1 in
    rw (p.1, p.2)
    ((front ++ records) ++ end, (λ summed. summary_is s.seed s.counts s.sound s.cells (filled_of c.args.store.now) summed), cut_front first now (front ++ records) end (cut_front first now front records cut))

-- the records weren't printed
pub returns-in_err-print_records : goal.returns-in_err-print_records
returns-in_err-print_records g c =
    let s = c.args.summed in
    let first = g.K.Sink.state c.args.sink.now in
    let now = g.K.Sink.state c.flush_if_full.new.sink in
    let new = g.K.Sink.state c.print_records.new.sink in
    let left = c.print_records.new.line_buffer in
    let front = front_text s.seed s.counts s.sound s.cells in
    let records = records_text (archive_of c.args.store.now) 0 in
    let end = sound_line s.sound.rows s.sound.intervals s.sound.late in
    let held : c.put_cells.new.line_buffer ≡ front = c.put_cells.ensures ∙ ap (λ (l : List ℕ). l ++ count_lines s.cells) c.put_made.ensures.made in
    let printed : IsPrinted first now front c.flush_if_full.new.self = subst (λ (l : List ℕ). IsPrinted first now l c.flush_if_full.new.self) held c.in_ok-flush_if_full.ensures in
    let p = err_from_is_err_and c.from_residual-in_err-print_records.result c.from_residual-in_err-print_records.ensures.1 in
    let failed = printed_then_failed p.0 first now new front records c.flush_if_full.new.self left printed (rw p.2 c.in_err-print_records.ensures) in
    ((front ++ records) ++ end, (λ summed. summary_is s.seed s.counts s.sound s.cells (filled_of c.args.store.now) summed), failed_front (Unit {0}) c.from_residual-in_err-print_records.result p.0 first new (front ++ records) end left left p.1 failed)

-- the last line wasn't written
pub returns-in_err-flush_if_full-2 : goal.returns-in_err-flush_if_full-2
returns-in_err-flush_if_full-2 g c =
    let s = c.args.summed in
    let first = g.K.Sink.state c.args.sink.now in
    let now = g.K.Sink.state c.flush_if_full.new.sink in
    let mid = g.K.Sink.state c.print_records.new.sink in
    let new = g.K.Sink.state c.flush_if_full-2.new.sink in
    let left = c.print_records.new.line_buffer in
    let front = front_text s.seed s.counts s.sound s.cells in
    let records = records_text (archive_of c.args.store.now) 0 in
    let end = sound_line s.sound.rows s.sound.intervals s.sound.late in
    let held : c.put_cells.new.line_buffer ≡ front = c.put_cells.ensures ∙ ap (λ (l : List ℕ). l ++ count_lines s.cells) c.put_made.ensures.made in
    let printed : IsPrinted first now front c.flush_if_full.new.self = subst (λ (l : List ℕ). IsPrinted first now l c.flush_if_full.new.self) held c.in_ok-flush_if_full.ensures in
    let both = printed_on first now mid front records c.flush_if_full.new.self left printed c.in_ok-print_records.ensures in
    let cut : IsCutOff mid new (left ++ end) = subst (λ (l : List ℕ). IsCutOff mid new l) c.put_sound.ensures c.in_err-flush_if_full-2.ensures in
    let p = err_from_is_err_and c.from_residual-in_err-flush_if_full-2.result c.from_residual-in_err-flush_if_full-2.ensures.1 in
    rw (p.1, p.2)
    ((front ++ records) ++ end, (λ summed. summary_is s.seed s.counts s.sound s.cells (filled_of c.args.store.now) summed), printed_cut first mid new (front ++ records) end left both cut)

pub returns : goal.returns
returns g c =
    let s = c.args.summed in
    let first = g.K.Sink.state c.args.sink.now in
    let now = g.K.Sink.state c.flush_if_full.new.sink in
    let mid = g.K.Sink.state c.print_records.new.sink in
    let new = g.K.Sink.state c.flush_if_full-2.new.sink in
    let left = c.print_records.new.line_buffer in
    let last = c.flush_if_full-2.new.self in
    let front = front_text s.seed s.counts s.sound s.cells in
    let records = records_text (archive_of c.args.store.now) 0 in
    let end = sound_line s.sound.rows s.sound.intervals s.sound.late in
    let held : c.put_cells.new.line_buffer ≡ front = c.put_cells.ensures ∙ ap (λ (l : List ℕ). l ++ count_lines s.cells) c.put_made.ensures.made in
    let printed : IsPrinted first now front c.flush_if_full.new.self = subst (λ (l : List ℕ). IsPrinted first now l c.flush_if_full.new.self) held c.in_ok-flush_if_full.ensures in
    let both = printed_on first now mid front records c.flush_if_full.new.self left printed c.in_ok-print_records.ensures in
    let ended : IsPrinted mid new (left ++ end) last = subst (λ (l : List ℕ). IsPrinted mid new l last) c.put_sound.ensures c.in_ok-flush_if_full-2.ensures in
    ((front ++ records) ++ end, (λ summed. summary_is s.seed s.counts s.sound s.cells (filled_of c.args.store.now) summed), printed_on first mid new (front ++ records) end left last both ended)
