use Rattle.std.proofs.Common.{◌≡◌, ◌++◌, length}
use Rattle.histogram.specs.OneName.{AreRecordsOf}
use Rattle.histogram.specs.SpanEntries.{spans_in}
use Rattle.histogram.specs.Walk.{AreAhead}
use Rattle.histogram.proofs.histogram.Histogram.of_name.Given as goal

abbrev pub invariant-loop-span : goal.invariant-loop-span
invariant-loop-span l = record {
  ahead : AreAhead l.pname l.entries;
  same : spans_in l.pname l.index.entries ++ spans_in l.pname l.entries ≡ spans_in l.pname l.initial.entries;
  held : AreRecordsOf l.pname (spans_in l.pname l.index.entries) l.index.entries;
}

abbrev pub decreases-loop-span : goal.decreases-loop-span
decreases-loop-span l = length l.entries
