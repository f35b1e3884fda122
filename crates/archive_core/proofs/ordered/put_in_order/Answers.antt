use Rattle.std.proofs.Common.{rules}
use Rattle.std.proofs.lemmas.List.Sorted.{answers_always}
use Rattle.arch_types.specs.declared.row.Row.{Row}
use Rattle.archive_core.proofs.KeyOrder.{only_order}
use Rattle.archive_core.proofs.ordered.put_in_order.Goals as goal

pub returns : goal.returns
returns c =
    only_order c.args.rows.now.items c.sort_by_key.new.self.items
    (c.in_ok-sort_by_key.ensures.sorted (λ (row : Row). row.key) (answers_always _ _ _ (λ f a r h k. search rules)))
    (c.sort_by_key.ensures.stable (λ (row : Row). row.key) (answers_always _ _ _ (λ f a r h k. search rules)))
