use Rattle.std.proofs.Common.{◌≡◌, ◌++◌, List, ℕ, length, refl, subst}
use Rattle.std.specs.Prelude.{flat_map, option_copied}
use Rattle.std.specs.Arc.{arc_value}
use Rattle.std.proofs.lemmas.Result.{err_from_is_err_and}
use Rattle.retrieval.specs.AnswerText.{end_line, front_line}
use Rattle.retrieval.specs.CellText.{cell_line}
use Rattle.retrieval.specs.ValuesText.{cell_lines}
use Rattle.line_buffer.specs.Printed.{BuffersText, IsCutOff, IsPrinted}
use Rattle.line_buffer.proofs.LineBuffers.{three_parts}
use Rattle.line_buffer.proofs.PrintedTexts.{buffers_then, cut_front, printed_cut, printed_on}
use Rattle.retrieval.proofs.answer_text.print_found.Goals as goal

pub returns-in_err-flush_if_full : goal.returns-in_err-flush_if_full
returns-in_err-flush_if_full g c =
    let s0 = g.K.Sink.state c.args.sink.now in
    let s1 = g.K.Sink.state c.flush_if_full.new.sink in
    let found = c.args.found.now in
    let cells = c.args.answer.now.cells in
    let mid = c.put_front.new.line_buffer in
    let front = front_line c.args.k c.args.answer.now.front in
    let lines = cell_lines (arc_value found.mdb) found.number cells in
    let end = end_line (length cells) in
    let p = err_from_is_err_and c.from_residual.result c.from_residual.ensures.1 in
    let gone = cut_front s0 s1 (mid ++ lines) end (cut_front s0 s1 mid lines c.in_err-flush_if_full.ensures) in
    rw p.1 (subst (IsCutOff s0 s1) (three_parts c.args.line_buffer.now front lines end mid c.put_front.ensures) gone)

pub returns-in_err-print_cells : goal.returns-in_err-print_cells
returns-in_err-print_cells g c =
    let s0 = g.K.Sink.state c.args.sink.now in
    let s1 = g.K.Sink.state c.flush_if_full.new.sink in
    let s2 = g.K.Sink.state c.print_cells.new.sink in
    let found = c.args.found.now in
    let cells = c.args.answer.now.cells in
    let mid = c.put_front.new.line_buffer in
    let left = c.flush_if_full.new.self in
    let front = front_line c.args.k c.args.answer.now.front in
    let lines = cell_lines (arc_value found.mdb) found.number cells in
    let end = end_line (length cells) in
    let printed : flat_map (cell_line (option_copied c.calibration_of-calibration.result)) c.args.answer.now.cells ≡ lines =
    rw (c.calibration_of-calibration.ensures.value, c.deref.ensures) refl in
    let text = three_parts c.args.line_buffer.now front lines end mid c.put_front.ensures in
    let cut : IsCutOff s1 s2 (left ++ lines) = subst (λ (l : List ℕ). IsCutOff s1 s2 (left ++ l)) printed c.in_err-print_cells.ensures in
    let gone = cut_front s0 s2 (mid ++ lines) end (printed_cut s0 s1 s2 mid lines left c.in_ok-flush_if_full.ensures cut) in
    let p = err_from_is_err_and c.from_residual-in_err-print_cells.result c.from_residual-in_err-print_cells.ensures.1 in
    rw p.1 (subst (IsCutOff s0 s2) text gone)

pub returns : goal.returns
returns g c =
    let s0 = g.K.Sink.state c.args.sink.now in
    let s1 = g.K.Sink.state c.flush_if_full.new.sink in
    let s2 = g.K.Sink.state c.print_cells.new.sink in
    let s3 = g.K.Sink.state c.flush_if_full-2.new.sink in
    let found = c.args.found.now in
    let cells = c.args.answer.now.cells in
    let mid = c.put_front.new.line_buffer in
    let left = c.flush_if_full.new.self in
    let last = c.print_cells.new.line_buffer in
    let still = c.flush_if_full-2.new.self in
    let front = front_line c.args.k c.args.answer.now.front in
    let lines = cell_lines (arc_value found.mdb) found.number cells in
    let end = end_line (length cells) in
    let printed : flat_map (cell_line (option_copied c.calibration_of-calibration.result)) c.args.answer.now.cells ≡ lines =
    rw (c.calibration_of-calibration.ensures.value, c.deref.ensures) refl in
    let text = three_parts c.args.line_buffer.now front lines end mid c.put_front.ensures in
    let there : IsPrinted s1 s2 (left ++ lines) last = subst (λ (l : List ℕ). IsPrinted s1 s2 (left ++ l) last) printed c.in_ok-print_cells.ensures in
    let gone = printed_on s0 s1 s2 mid lines left last c.in_ok-flush_if_full.ensures there in
    let put : c.put_end.new.line_buffer ≡ last ++ end = rw c.len.ensures at c.put_end.ensures in
    let ended = subst (λ (l : List ℕ). BuffersText c.flush_if_full-2.result s2 s3 l still) put c.flush_if_full-2.ensures in
    subst (λ (l : List ℕ). BuffersText c.flush_if_full-2.result s0 s3 l still) text
    (buffers_then c.flush_if_full-2.result s0 s2 s3 (mid ++ lines) end last still gone ended)
