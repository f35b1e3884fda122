use Rattle.std.specs.Prelude.{int_lt}
use Rattle.arch_types.proofs.InOrder.{order_same}
use Rattle.histogram.proofs.Times.{sorted_in_order}
use Rattle.histogram.proofs.laws.times_are_sorted.Goals as goal

pub returns-clause-sorted : goal.returns-clause-sorted
returns-clause-sorted c = sorted_in_order

pub returns-clause-same : goal.returns-clause-same
returns-clause-same c = order_same int_lt
