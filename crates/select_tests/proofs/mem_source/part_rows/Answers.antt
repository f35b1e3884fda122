use Rattle.std.proofs.Common.{rules}
use Rattle.std.proofs.lemmas.List.Sorted.{answers_always}
use Rattle.arch_types.specs.declared.row.Row.{Row}
use Rattle.partitions.specs.Rows.{is_of_partition}
use Rattle.replay_merge.specs.RowSource.{IsRowOf}
use Rattle.select_tests.proofs.Found.{are_found, each_found, rising_found}
use Rattle.select_tests.proofs.mem_source.part_rows.Goals as goal

pub returns-clause-rows : goal.returns-clause-rows
returns-clause-rows c =
    are_found c.args.table (is_of_partition c.args.partition.now) c.args.rows.now c.in_ok-found.found.items c.sort_by_key.new.self.items c.requires c.in_ok-found.ensures c.sort_by_key.ensures.permutation
    (c.in_ok-sort_by_key.ensures.sorted (λ (row : Row). row.key) (answers_always _ _ _ (λ f a r h k. search rules)))
    (c.sort_by_key.ensures.stable (λ (row : Row). row.key) (answers_always _ _ _ (λ f a r h k. search rules)))

pub returns-clause-each : goal.returns-clause-each
returns-clause-each c =
    let test = is_of_partition c.args.partition.now in
    let sorted = c.in_ok-sort_by_key.ensures.sorted (λ (row : Row). row.key) (answers_always _ _ _ (λ f a r h k. search rules)) in
    let stable = c.sort_by_key.ensures.stable (λ (row : Row). row.key) (answers_always _ _ _ (λ f a r h k. search rules)) in
    record {
      each = each_found c.args.table test c.args.rows.now c.in_ok-found.found.items c.sort_by_key.new.self.items c.requires c.in_ok-found.ensures c.sort_by_key.ensures.permutation sorted stable
          (IsRowOf c.args.table c.args.partition.now) (λ row keyed number passes. record { keyed = keyed; in_table = number; in_partition = passes });
      rising = rising_found c.args.table test c.args.rows.now c.in_ok-found.found.items c.sort_by_key.new.self.items c.requires c.in_ok-found.ensures c.sort_by_key.ensures.permutation sorted stable;
    }
