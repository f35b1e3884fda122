use Rattle.std.proofs.Common.{◌<◌, ◌∙◌, arith, refl}
use Rattle.line_buffer.proofs.LineBuffers.{wrote_none, wrote_more, wrote_some}
use Rattle.line_buffer.proofs.write.write_all.Goals as goal

pub loop-at-init : goal.loop-at-init
loop-at-init g c = record {
  within = omega arith;
  known = wrote_none (g.K.Sink.state c.args.sink.now).written;
  no_fault = refl;
}

pub loop-at-preserved : goal.loop-at-preserved
loop-at-preserved g c = record {
  within = omega (arith, c.in-Ok.ensures.count, c.split_at.ensures.back_len);
  known = wrote_more (g.K.Sink.state c.args.sink.now).written (g.K.Sink.state c.loop-at.sink).written (g.K.Sink.state c.write.new.self).written c.args.text.now c.split_at.result.1.now c.loop-at.at c.in-Ok.n c.split_at.ensures.back c.loop-at.invariant.known c.in-Ok.ensures.appended;
  no_fault = let some : 0 < c.in-Ok.n = omega arith in c.in-Ok.ensures.no_fault some ∙ c.loop-at.invariant.no_fault;
}

pub returns-in-Err : goal.returns-in-Err
returns-in-Err g c =
    let same = c.loop-at.invariant.no_fault in
    let later = c.write.ensures.later in record {
      some = wrote_some (g.K.Sink.state c.args.sink.now).written (g.K.Sink.state c.loop-at.sink).written (g.K.Sink.state c.write.new.self).written c.args.text.now c.split_at.result.1.now c.loop-at.at c.split_at.ensures.back c.loop-at.invariant.known c.in-Err.ensures.some;
      later = omega (arith, same, later);
      failed = λ small. let risen = c.in-Err.ensures.failed refl small in omega (arith, same, risen);
    }
