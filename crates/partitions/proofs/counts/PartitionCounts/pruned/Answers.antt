use Rattle.std.proofs.Common.{◌↔◌, List, sym, subst}
use Rattle.std.specs.Prelude.{Contains, nat_eq}
use Rattle.std.specs.List.{list_any}
use Rattle.std.proofs.lemmas.List.Kept.{IsStrictlySortedBy-filter}
use Rattle.partitions.specs.declared.partition.Partition.{Partition}
use Rattle.partitions.specs.Partition.{partition_cmp}
use Rattle.partitions.specs.Bounds.{MayHold}
use Rattle.partitions.specs.Partitions.{AreRising}
use Rattle.partitions.proofs.Exactly.{all_exactly, listed_exactly}
use Rattle.partitions.proofs.Members.{exactly_by, none_rise}
use Rattle.partitions.proofs.counts.PartitionCounts.pruned.Goals as goal

pub returns-then-bounds-clause-rising : goal.returns-then-bounds-clause-rising
returns-then-bounds-clause-rising c = rw c.new.ensures none_rise

pub returns-in-Some-clause-exactly : goal.returns-in-Some-clause-exactly
returns-in-Some-clause-exactly c = λ noted are.
    let named = rw c.as_slice.ensures at c.named.ensures in
    subst (λ (l : List Partition). (p : Partition) → Contains l p ↔ (Contains noted p × MayHold c.args.bounds.now p)) (sym named)
    (listed_exactly c.args.bounds.now c.of.result c.of.ensures.exactly c.in-Some.names c.in_ok-parts.parts noted c.in-Some.is (c.in_ok-parts.ensures.exactly noted are))

pub returns-in-Some-clause-rising : goal.returns-in-Some-clause-rising
returns-in-Some-clause-rising c =
    subst AreRising (sym c.named.ensures)
    (IsStrictlySortedBy-filter partition_cmp (λ (p : Partition). list_any (nat_eq p.pname) c.as_slice.result.now) c.in_ok-parts.parts c.in_ok-parts.ensures.rising)

pub returns-in-None-clause-exactly : goal.returns-in-None-clause-exactly
returns-in-None-clause-exactly c = λ noted are.
    exactly_by c.in_ok-parts.parts noted (all_exactly c.args.bounds.now c.of.result c.of.ensures.exactly c.in-None.is) (c.in_ok-parts.ensures.exactly noted are)
