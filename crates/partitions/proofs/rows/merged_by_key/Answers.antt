use Rattle.std.proofs.Common.{rules}
use Rattle.std.proofs.lemmas.List.Sorted.{answers_always}
use Rattle.arch_types.specs.declared.row.Row.{Row}
use Rattle.partitions.proofs.rows.merged_by_key.Goals as goal

pub returns-clause-sorted : goal.returns-clause-sorted
returns-clause-sorted c = rw c.from_vec.ensures (c.in_ok-sort_by_key.ensures.sorted (λ (row : Row). row.key) (answers_always _ _ _ (λ f a r h k. search rules)))

pub returns-clause-stable : goal.returns-clause-stable
returns-clause-stable c = rw c.from_vec.ensures (c.sort_by_key.ensures.stable (λ (row : Row). row.key) (answers_always _ _ _ (λ f a r h k. search rules)))
