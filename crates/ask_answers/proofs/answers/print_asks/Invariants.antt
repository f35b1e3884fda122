use Rattle.std.proofs.Common.{◌≡◌, ◌+◌, ◌≤◌, ◌++◌, ℕ, List, drop, take}
use Rattle.std.specs.Prelude.{sum_by}
use Rattle.arch_disk.specs.Disk.{NoFault}
use Rattle.archive_store.specs.Pages.{TellsRows}
use Rattle.archive_store.specs.StoreView.{filled_of}
use Rattle.archive_store.specs.UnreadRows.{IsReadOn}
use Rattle.retrieval.specs.FoundAsks.{AreFound, asks_found}
use Rattle.line_buffer.specs.Printed.{IsPrinted}
use Rattle.ask_answers.specs.Asks.{archive_asks_text, steps_of_ask}
use Rattle.ask_answers.proofs.answers.print_asks.Given as goal

-- a text was printed; where the store tells its rows, the answers to the asks that are left stand behind it
abbrev pub invariant-loop-i : goal.invariant-loop-i
invariant-loop-i g l =
    let told = TellsRows g.D.Disk.device l.fn.store in
    let filled = filled_of l.fn.store in
    record {
      text : (printed : List ℕ) × (told → printed ++ archive_asks_text filled (l.i + 1) (asks_found (drop l.i l.asks)) ≡ archive_asks_text filled 1 (asks_found l.asks))
          × IsPrinted (g.K.Sink.state l.fn.sink) (g.K.Sink.state l.sink) printed l.line_buffer;
      found : AreFound l.fn.store.head l.fn.store.history (drop l.i l.asks);
      read : IsReadOn g.D.Disk.device l.fn.store l.store;
      calm : NoFault g.D.Disk.device l.fn.store.disk l.store.disk;
      steps : told → l.steps ≤ l.initial.steps + sum_by (steps_of_ask l.fn.store) (take l.i l.asks);
    }
