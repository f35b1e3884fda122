use Rattle.std.proofs.Common.{◌≡◌, ◌++◌, List, drop, vec_len, vec_capacity}
use Rattle.live_asks.specs.declared.answered.AskAnswer.{AskAnswer}
use Rattle.live_session.specs.Interleaving.{AreEveryFourth, HaveAnswersFor}
use Rattle.live_session.proofs.interleaving.interleave.Given as goal

-- whatever is interleaved of what is left, it is of the whole
abbrev pub invariant-loop : goal.invariant-loop
invariant-loop l = record {
  many : HaveAnswersFor l.asks l.fn.first l.fn.second l.fn.third l.fn.fourth → HaveAnswersFor (drop l.counter l.asks) l.next.rest.items l.second.rest.items l.third.rest.items l.fourth.rest.items;
  interleaved : (tail : List AskAnswer) → AreEveryFourth tail l.next.rest.items l.second.rest.items l.third.rest.items l.fourth.rest.items
      → AreEveryFourth (l.answers.items ++ tail) l.fn.first l.fn.second l.fn.third l.fn.fourth;
  count : vec_len l.answers ≡ l.counter;
  capacity : vec_capacity l.answers ≡ vec_capacity l.fn.room;
}
