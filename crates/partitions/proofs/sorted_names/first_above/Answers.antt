use Rattle.std.proofs.Common.{◌≡◌, ◌+◌, leb, leb-true, leb-false, sym, ◌∙◌, arith, rules}
use Rattle.std.specs.Prelude.{slice_get}
use Rattle.std.proofs.lemmas.List.Sorted.{IsPartitionPoint-from_clause, IsPartitionedBy-leb}
use Rattle.partitions.proofs.Least.{least_from, item_is}
use Rattle.partitions.proofs.sorted_names.first_above.Goals as goal

pub returns : goal.returns
returns c =
    let items = c.args.items.now in
    let at = c.partition_point-at.result in
    let parted = IsPartitionedBy-leb (λ p. p) items c.args.pname c.requires in
    let point = IsPartitionPoint-from_clause (λ p. leb p c.args.pname) _ _ c.partition_point-at.ensures.partitioned parted (λ a r q k. search rules) in
    let there : slice_get items at ≡ c.copied.result = item_is items at c.get.result c.get.ensures.lookup.3 ∙ sym c.copied.ensures in
    rw (← there) (least_from items (c.args.pname + 1) at (λ k h. (let low = leb-true _ _ (point.0 k 0 (omega arith) h) in omega arith)) c.partition_point-at.ensures.bound (λ k from h. (let high = leb-false _ _ (point.1 k 0 from h) in omega arith)) c.requires)
