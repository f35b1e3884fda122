use Rattle.std.proofs.Common.{◌≡◌, length}
use Rattle.yarch_table.specs.Index.{rows_left, AreRisingKeys}
use Rattle.yarch_table.proofs.rows.next_seen.Given as goal

abbrev pub invariant-loop-entry : goal.invariant-loop-entry
invariant-loop-entry l = record {
  rising : AreRisingKeys l.stored l.entries;
  same : rows_left l.stored l.window.front l.window.end l.entries ≡ rows_left l.stored l.window.front l.window.end l.fn.entries;
}

abbrev pub decreases-loop-entry : goal.decreases-loop-entry
decreases-loop-entry l = length l.entries
