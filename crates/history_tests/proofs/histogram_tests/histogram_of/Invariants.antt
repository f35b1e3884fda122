use Rattle.std.proofs.Common.{take}
use Rattle.histogram.specs.Times.{IsHistogramOf}
use Rattle.history_tests.proofs.histogram_tests.histogram_of.Given as goal

abbrev pub invariant-loop-at : goal.invariant-loop-at
invariant-loop-at l = IsHistogramOf l.histogram (take l.at-index l.times)
