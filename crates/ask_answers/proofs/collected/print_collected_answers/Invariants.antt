use Rattle.std.proofs.Common.{◌≡◌, ◌+◌, ◌++◌, drop, length}
use Rattle.outer_traits.specs.Outside.{Stays}
use Rattle.archive_store.specs.StoreView.{archive_of}
use Rattle.retrieval.specs.FoundAsks.{AreFound, asks_found}
use Rattle.line_buffer.specs.LineRoom.{HasLineRoom}
use Rattle.line_buffer.specs.Output.{IsBuffered}
use Rattle.ask_answers.specs.Collected.{AreAnswersTo, collected_answers_text}
use Rattle.ask_answers.proofs.collected.print_collected_answers.Given as goal

abbrev pub invariant-loop-i : goal.invariant-loop-i
invariant-loop-i g l = record {
  buffered : IsBuffered (g.K.Sink.state l.fn.sink).written (g.K.Sink.state l.sink).written (collected_answers_text (archive_of l.store) 1 (asks_found l.asks) l.answers)
      (l.line_buffer ++ collected_answers_text (archive_of l.store) (l.i + 1) (asks_found (drop l.i l.asks)) (drop l.i l.answers));
  room : HasLineRoom l.line_buffer;
  found : AreFound l.store.head l.store.history (drop l.i l.asks);
  answered : AreAnswersTo (asks_found (drop l.i l.asks)) (drop l.i l.answers);
  as_many : length l.answers ≡ length l.asks;
  no_fault : Stays (g.K.Sink.state l.fn.sink).faults (g.K.Sink.state l.sink).faults;
}
