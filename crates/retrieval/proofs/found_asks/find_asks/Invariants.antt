use Rattle.std.proofs.Common.{◌≡◌, ◌++◌}
use Rattle.retrieval.specs.FoundAsks.{AreFound, asks_found}
use Rattle.retrieval.proofs.found_asks.find_asks.Given as goal

-- the asks so far were found, and the others are left
abbrev pub invariant-loop-ask : goal.invariant-loop-ask
invariant-loop-ask g l = record {
  left : asks_found l.found ++ l.ask-iterator.rest.items ≡ l.fn.asks;
  found : AreFound l.store.head l.store.history l.found;
}
