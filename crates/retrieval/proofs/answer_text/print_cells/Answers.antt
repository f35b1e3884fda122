use Rattle.std.proofs.Common.{◌≡◌, ◌∙◌, ◌++◌, ◌∷◌, arith}
use Rattle.std.specs.Prelude.{flat_map, option_copied}
use Rattle.std.proofs.lemmas.Result.{err_from_is_err_and}
use Rattle.retrieval.specs.CellText.{cell_line}
use Rattle.line_buffer.specs.Output.{IsBuffered}
use Rattle.line_buffer.proofs.LineBuffers.{buffered_more, buffered_some, regroup}
use Rattle.retrieval.proofs.answer_text.print_cells.Goals as goal

pub loop-cell-preserved : goal.loop-cell-preserved
loop-cell-preserved g c =
    let line = cell_line (option_copied c.args.calibration) in
    let first = (g.K.Sink.state c.args.sink.now).written in
    let now = (g.K.Sink.state c.loop-cell.sink).written in
    let all = c.args.line_buffer.now ++ flat_map line c.args.cells.now in
    let step : c.loop-cell.cell-iterator ≡ c.in-Some.cell ∷ c.next.new.self = let s = c.in-Some.ensures.steps in cc in
    let before = regroup line first now all c.loop-cell.line_buffer c.loop-cell.cell-iterator c.next.new.self c.in-Some.cell step c.loop-cell.invariant.buffered in
    let flushed : IsBuffered now (g.K.Sink.state c.flush_if_full.new.sink).written (c.loop-cell.line_buffer ++ line c.in-Some.cell) c.flush_if_full.new.self = rw c.put_cell.ensures at c.in_ok-flush_if_full.ensures.buffered in
    record {
      buffered = buffered_more first now (g.K.Sink.state c.flush_if_full.new.sink).written all (c.loop-cell.line_buffer ++ line c.in-Some.cell) c.flush_if_full.new.self (flat_map line c.next.new.self) before flushed;
      room = c.in_ok-flush_if_full.ensures.room;
      no_fault = c.in_ok-flush_if_full.ensures.no_fault ∙ c.loop-cell.invariant.no_fault;
    }

pub returns-in_err-flush_if_full : goal.returns-in_err-flush_if_full
returns-in_err-flush_if_full g c =
    let line = cell_line (option_copied c.args.calibration) in
    let first = (g.K.Sink.state c.args.sink.now).written in
    let now = (g.K.Sink.state c.loop-cell.sink).written in
    let all = c.args.line_buffer.now ++ flat_map line c.args.cells.now in
    let step : c.loop-cell.cell-iterator ≡ c.in-Some.cell ∷ c.next.new.self = let s = c.in-Some.ensures.steps in cc in
    let before = regroup line first now all c.loop-cell.line_buffer c.loop-cell.cell-iterator c.next.new.self c.in-Some.cell step c.loop-cell.invariant.buffered in
    let some = rw c.put_cell.ensures at c.in_err-flush_if_full.ensures.some in
    let p = err_from_is_err_and c.from_residual.result c.from_residual.ensures.1 in
    let same = c.loop-cell.invariant.no_fault in
    let later = c.in_err-flush_if_full.ensures.later in
    rw p.1 (record {
      some = buffered_some first now (g.K.Sink.state c.flush_if_full.new.sink).written all (c.loop-cell.line_buffer ++ line c.in-Some.cell) (flat_map line c.next.new.self) before some;
      later = omega (arith, same, later);
      failed = λ small. let risen = c.in_err-flush_if_full.ensures.failed small in omega (arith, same, risen);
    })
