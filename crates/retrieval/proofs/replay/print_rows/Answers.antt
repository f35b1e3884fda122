use Rattle.std.proofs.Common.{◌≡◌, ◌∙◌, ◌+◌, ◌++◌, ◌∷◌, ap, arith, drop, sym}
use Rattle.std.proofs.lemmas.List.{drop_more}
use Rattle.std.proofs.lemmas.Result.{err_from_is_err_and}
use Rattle.arch_types.specs.declared.row.Row.{Row}
use Rattle.outer_traits.specs.Outside.{WritesSome}
use Rattle.line_buffer.specs.Output.{IsBuffered}
use Rattle.line_buffer.proofs.LineBuffers.{buffered_more, buffered_some, regroup}
use Rattle.retrieval.specs.ReplayText.{packet_line, packet_lines}
use Rattle.retrieval.proofs.replay.print_rows.Goals as goal

pub loop-row-preserved : goal.loop-row-preserved
loop-row-preserved g c =
    let rows = c.args.rows.now in
    let i = c.loop-row.row-index in
    let row = c.row-item.result in
    let line = packet_line c.args.names.now c.args.table.now in
    let rest = drop (i + 1) rows in
    let first = (g.K.Sink.state c.args.sink.now).written in
    let now = (g.K.Sink.state c.loop-row.sink).written in
    let new = (g.K.Sink.state c.flush_if_full.new.sink).written in
    let all = c.args.line_buffer.now ++ packet_lines c.args.names.now c.args.table.now rows in
    let held = c.loop-row.line_buffer in
    let left = c.flush_if_full.new.self in
    let step : drop i rows ≡ row ∷ rest = drop_more rows i row c.loop-row-test.true ∙ ap (λ (r : Row). r ∷ rest) (sym c.row-item.is) in
    let before = regroup line first now all held (drop i rows) rest row step c.loop-row.invariant.buffered in
    let flushed : IsBuffered now new (held ++ line row) left = rw c.put_packet.ensures at c.in_ok-flush_if_full.ensures.buffered in
    record {
      buffered = buffered_more first now new all (held ++ line row) left (packet_lines c.args.names.now c.args.table.now rest) before flushed;
      room = c.in_ok-flush_if_full.ensures.room;
      no_fault = c.in_ok-flush_if_full.ensures.no_fault ∙ c.loop-row.invariant.no_fault;
    }

pub returns-in_err-flush_if_full : goal.returns-in_err-flush_if_full
returns-in_err-flush_if_full g c =
    let rows = c.args.rows.now in
    let i = c.loop-row.row-index in
    let row = c.row-item.result in
    let line = packet_line c.args.names.now c.args.table.now in
    let rest = drop (i + 1) rows in
    let first = (g.K.Sink.state c.args.sink.now).written in
    let now = (g.K.Sink.state c.loop-row.sink).written in
    let new = (g.K.Sink.state c.flush_if_full.new.sink).written in
    let all = c.args.line_buffer.now ++ packet_lines c.args.names.now c.args.table.now rows in
    let held = c.loop-row.line_buffer in
    let step : drop i rows ≡ row ∷ rest = drop_more rows i row c.loop-row-test.true ∙ ap (λ (r : Row). r ∷ rest) (sym c.row-item.is) in
    let before = regroup line first now all held (drop i rows) rest row step c.loop-row.invariant.buffered in
    let some : WritesSome now new (held ++ line row) = rw c.put_packet.ensures at c.in_err-flush_if_full.ensures.some in
    let p = err_from_is_err_and c.from_residual.result c.from_residual.ensures.1 in
    let same = c.loop-row.invariant.no_fault in
    let later = c.in_err-flush_if_full.ensures.later in
    rw p.1 (record {
      some = buffered_some first now new all (held ++ line row) (packet_lines c.args.names.now c.args.table.now rest) before some;
      later = omega (arith, same, later);
      failed = λ small. let risen = c.in_err-flush_if_full.ensures.failed small in omega (arith, same, risen);
    })
