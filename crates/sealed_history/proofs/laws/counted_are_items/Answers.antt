use Rattle.sealed_history.proofs.Whole.{counted_partitions, counted_spans}
use Rattle.sealed_history.proofs.laws.counted_are_items.Goals as goal

pub returns-clause-partitions : goal.returns-clause-partitions
returns-clause-partitions c = counted_partitions

pub returns-clause-spans : goal.returns-clause-spans
returns-clause-spans c = counted_spans
