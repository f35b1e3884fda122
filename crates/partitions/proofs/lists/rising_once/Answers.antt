use Rattle.std.proofs.Common.{subst, sym}
use Rattle.std.specs.Prelude.{List, Contains, ◌↔◌}
use Rattle.partitions.specs.declared.partition.Partition.{Partition}
use Rattle.partitions.specs.Partitions.{AreRising}
use Rattle.partitions.proofs.Once.{are_same, same_by_order, once_rising, once_same}
use Rattle.partitions.proofs.lists.rising_once.Goals as goal

pub returns-clause-same : goal.returns-clause-same
returns-clause-same c = λ p.
    let once = once_same are_same same_by_order c.into_vec-parts.result.items c.sort_unstable.new.self.items c.dedup.new.self.items c.sort_unstable.ensures.permutation c.sort_unstable.ensures.sorted c.dedup.ensures.filtered p in
    let left = subst (λ (l : List Partition). Contains c.dedup.new.self.items p ↔ Contains l p) c.into_vec-parts.ensures once in
    subst (λ (l : List Partition). Contains l p ↔ Contains c.args.parts p) (sym c.from_vec.ensures) left

pub returns-clause-rising : goal.returns-clause-rising
returns-clause-rising c =
    subst AreRising (sym c.from_vec.ensures)
    (once_rising are_same same_by_order c.into_vec-parts.result.items c.sort_unstable.new.self.items c.dedup.new.self.items c.sort_unstable.ensures.permutation c.sort_unstable.ensures.sorted c.dedup.ensures.filtered)
