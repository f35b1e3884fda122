use Rattle.std.proofs.Common.{subst, ◌∙◌}
use Rattle.std.specs.Prelude.{List, Contains, ◌↔◌}
use Rattle.partitions.specs.declared.partition.Partition.{Partition}
use Rattle.replay_merge.proofs.Opening.{are_same, same_by_order, once_rising, once_same}
use Rattle.ssql_select.proofs.days.rising_once.Goals as goal

pub returns-clause-same : goal.returns-clause-same
returns-clause-same c = λ partition.
    subst (λ (l : List Partition). Contains c.dedup.new.self.items partition ↔ Contains l partition) (c.into_vec-rising.ensures ∙ c.in_ok-copy.ensures)
    (once_same are_same same_by_order c.into_vec-rising.result.items c.sort_unstable.new.self.items c.dedup.new.self.items c.sort_unstable.ensures.permutation c.sort_unstable.ensures.sorted c.dedup.ensures.filtered partition)

pub returns-clause-rising : goal.returns-clause-rising
returns-clause-rising c =
    once_rising are_same same_by_order c.into_vec-rising.result.items c.sort_unstable.new.self.items c.dedup.new.self.items c.sort_unstable.ensures.permutation c.sort_unstable.ensures.sorted c.dedup.ensures.filtered
