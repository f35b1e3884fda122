use Rattle.std.proofs.Common.{rules, w64}
use Rattle.std.proofs.lemmas.Int.{to_z-of_z}
use Rattle.std.proofs.lemmas.List.Sorted.{answers_always}
use Rattle.arch_types.specs.declared.row.Row.{Row}
use Rattle.arch_types.specs.Table.{is_in_time_range}
use Rattle.replay_merge.specs.RowSource.{IsRowIn}
use Rattle.select_tests.proofs.Found.{are_found, each_found, rising_found}
use Rattle.select_tests.proofs.mem_source.range_rows.Goals as goal

pub returns-clause-rows : goal.returns-clause-rows
returns-clause-rows c =
    let got = rw (to_z-of_z w64 c.args.from c.ranges.from, to_z-of_z w64 c.args.to c.ranges.to) at c.in_ok-found.ensures in
    are_found c.args.table (is_in_time_range c.args.from c.args.to) c.args.rows.now c.in_ok-found.found.items c.sort_by_key.new.self.items c.requires got c.sort_by_key.ensures.permutation
    (c.in_ok-sort_by_key.ensures.sorted (λ (row : Row). row.key) (answers_always _ _ _ (λ f a r h k. search rules)))
    (c.sort_by_key.ensures.stable (λ (row : Row). row.key) (answers_always _ _ _ (λ f a r h k. search rules)))

pub returns-clause-each : goal.returns-clause-each
returns-clause-each c =
    let got = rw (to_z-of_z w64 c.args.from c.ranges.from, to_z-of_z w64 c.args.to c.ranges.to) at c.in_ok-found.ensures in
    let test = is_in_time_range c.args.from c.args.to in
    let sorted = c.in_ok-sort_by_key.ensures.sorted (λ (row : Row). row.key) (answers_always _ _ _ (λ f a r h k. search rules)) in
    let stable = c.sort_by_key.ensures.stable (λ (row : Row). row.key) (answers_always _ _ _ (λ f a r h k. search rules)) in
    record {
      each = each_found c.args.table test c.args.rows.now c.in_ok-found.found.items c.sort_by_key.new.self.items c.requires got c.sort_by_key.ensures.permutation sorted stable
          (IsRowIn c.args.table c.args.from c.args.to) (λ row keyed number passes. record { keyed = keyed; in_table = number; in_range = passes });
      rising = rising_found c.args.table test c.args.rows.now c.in_ok-found.found.items c.sort_by_key.new.self.items c.requires got c.sort_by_key.ensures.permutation sorted stable;
    }
