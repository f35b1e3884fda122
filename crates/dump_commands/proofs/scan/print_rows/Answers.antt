use Rattle.std.proofs.Common.{◌≡◌, ◌∙◌, ◌++◌, ◌∷◌, arith, refl}
use Rattle.std.specs.Prelude.{flat_map}
use Rattle.std.proofs.lemmas.Result.{err_from_is_err_and}
use Rattle.dump_lines.specs.Printing.{line_of_entry, lines_of}
use Rattle.line_buffer.specs.Output.{IsBuffered}
use Rattle.line_buffer.proofs.LineBuffers.{buffered_none, buffered_more, buffered_some, regroup}
use Rattle.dump_commands.proofs.scan.print_rows.Goals as goal

pub loop-entry-init : goal.loop-entry-init
loop-entry-init g c =
    record {
      buffered = rw (c.requires.empty, c.into_iter-entry-iterator.ensures.into_iter_gives, c.iter-entry-items.ensures.entries) (buffered_none (g.K.Sink.state c.args.sink.now).written (lines_of c.args.lengths.now.entries));
      room = rw c.requires.empty (omega arith);
      no_fault = refl;
    }

pub loop-entry-preserved : goal.loop-entry-preserved
loop-entry-preserved g c =
    let step : c.loop-entry.entry-iterator ≡ c.in-Some.entry.now ∷ c.next.new.self = let s = c.in-Some.ensures.steps in cc in
    let before = regroup line_of_entry (g.K.Sink.state c.args.sink.now).written (g.K.Sink.state c.loop-entry.sink).written (lines_of c.args.lengths.now.entries) c.loop-entry.line_buffer c.loop-entry.entry-iterator c.next.new.self c.in-Some.entry.now step c.loop-entry.invariant.buffered in
    let flushed : IsBuffered (g.K.Sink.state c.loop-entry.sink).written (g.K.Sink.state c.flush_if_full.new.sink).written (c.loop-entry.line_buffer ++ line_of_entry c.in-Some.entry.now) c.flush_if_full.new.self = rw c.put_row.ensures at c.in_ok-flush_if_full.ensures.buffered in
    record {
      buffered = buffered_more (g.K.Sink.state c.args.sink.now).written (g.K.Sink.state c.loop-entry.sink).written (g.K.Sink.state c.flush_if_full.new.sink).written (lines_of c.args.lengths.now.entries) (c.loop-entry.line_buffer ++ line_of_entry c.in-Some.entry.now) c.flush_if_full.new.self (flat_map line_of_entry c.next.new.self) before flushed;
      room = c.in_ok-flush_if_full.ensures.room;
      no_fault = c.in_ok-flush_if_full.ensures.no_fault ∙ c.loop-entry.invariant.no_fault;
    }

pub returns-in_err-flush_if_full : goal.returns-in_err-flush_if_full
returns-in_err-flush_if_full g c =
    let step : c.loop-entry.entry-iterator ≡ c.in-Some.entry.now ∷ c.next.new.self = let s = c.in-Some.ensures.steps in cc in
    let before = regroup line_of_entry (g.K.Sink.state c.args.sink.now).written (g.K.Sink.state c.loop-entry.sink).written (lines_of c.args.lengths.now.entries) c.loop-entry.line_buffer c.loop-entry.entry-iterator c.next.new.self c.in-Some.entry.now step c.loop-entry.invariant.buffered in
    let some = rw c.put_row.ensures at c.in_err-flush_if_full.ensures.some in
    let same = c.loop-entry.invariant.no_fault in
    let later = c.in_err-flush_if_full.ensures.later in
    let p = err_from_is_err_and c.from_residual.result c.from_residual.ensures.1 in
    rw p.1 (record {
      some = buffered_some (g.K.Sink.state c.args.sink.now).written (g.K.Sink.state c.loop-entry.sink).written (g.K.Sink.state c.flush_if_full.new.sink).written (lines_of c.args.lengths.now.entries) (c.loop-entry.line_buffer ++ line_of_entry c.in-Some.entry.now) (flat_map line_of_entry c.next.new.self) before some;
      later = omega (arith, same, later);
      failed = λ small. let risen = c.in_err-flush_if_full.ensures.failed small in omega (arith, same, risen);
    })
