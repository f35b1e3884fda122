use Rattle.std.proofs.Common.{◌≡◌, ◌+◌, ◌++◌, ℕ, List, length}
use Rattle.arch_disk.specs.Disk.{NoFault}
use Rattle.archive_store.specs.Pages.{TellsRows}
use Rattle.archive_store.specs.Replays.{rows_below}
use Rattle.archive_store.specs.UnreadRows.{IsReadOn}
use Rattle.line_buffer.specs.Printed.{IsPrinted}
use Rattle.replay_merge.specs.Cursor.{steps_at_most, rest_of}
use Rattle.retrieval.specs.ReplayText.{packet_lines}
use Rattle.retrieval.proofs.replay.print_rest.Given as goal

-- a text was printed; where the store tells its rows, the lines of those that are left stand behind it
abbrev pub invariant-steps : goal.invariant-steps
invariant-steps g l =
    let told = TellsRows g.D.Disk.device l.fn.store in
    let left = rest_of l.cursor (rows_below l.fn.store.history) in
    let all = rest_of l.fn.cursor (rows_below l.fn.store.history) in
    record {
      text : (printed : List ℕ) × (told → printed ++ packet_lines l.names l.table left ≡ packet_lines l.names l.table all)
          × IsPrinted (g.K.Sink.state l.fn.sink) (g.K.Sink.state l.sink) (l.initial.line_buffer ++ printed) l.line_buffer;
      counted : told → l.count + length left ≡ length all;
      read : IsReadOn g.D.Disk.device l.fn.store l.store;
      calm : NoFault g.D.Disk.device l.fn.store.disk l.store.disk;
    }

abbrev pub decreases-steps : goal.decreases-steps
decreases-steps g l = steps_at_most l.cursor
