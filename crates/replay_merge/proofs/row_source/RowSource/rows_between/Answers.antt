use Rattle.std.proofs.Common.{◌≡◌, ◌∙◌, inr, ℕ, List, Option, get_or, w64, to_z, of_z, subst}
use Rattle.std.specs.Prelude.{IfSome}
use Rattle.std.proofs.lemmas.Int.{to_z-of_z}
use Rattle.arch_types.specs.declared.row.Row.{Row}
use Rattle.arch_types.specs.declared.row_fault.RowFault.TheVariants.{OutOfMemory}
use Rattle.arch_types.specs.Table.{is_in_time_range}
use Rattle.partitions.proofs.Parted.{no_partition, default_free}
use Rattle.replay_merge.specs.RowSource.{AreRowSourceHistories, IsRowBetween, rows_of_partition}
use Rattle.replay_merge.proofs.Gathered.{one_part_more, each_part_more, all_gathered, between_read}
use Rattle.replay_merge.proofs.Giving.{each_moved, fault_before, fault_passed, given_before, tested_behind, used_twice}
use Rattle.replay_merge.proofs.row_source.RowSource.rows_between.Goals as goal

pub loop-partition-preserved : goal.loop-partition-preserved
loop-partition-preserved g c =
    let state = g.Self.RowSource.state c.args.self.now in
    let told = state.history in
    let loop = c.loop-partition in
    let parts = c.args.parts.now in
    let i = loop.partition-index in
    let partition = get_or parts i no_partition in
    let is : partition ≡ get_or parts i partition = default_free parts i no_partition partition c.loop-partition-test.true in
    let given = c.in_ok-part_rows.part_rows in
    let got = c.in_ok-part_rows.ensures in
    let all = c.in_ok-rows.rows.items in
    let low = to_z w64 (of_z w64 c.args.from) in
    let high = to_z w64 (of_z w64 c.args.to) in
    let used = loop.invariant.used in
    record {
      used = used_twice used got.source;
      calm = got.no_fault ∙ loop.invariant.calm;
      left = g.met.Self.RowSource.both_left c.args.self.now loop.self c.rows.new.self loop.invariant.left c.rows.ensures.left;
      rows = one_part_more c.args.table c.args.front low high parts i partition c.loop-partition-test.true is told loop.rows.items given all loop.invariant.rows
          (subst (λ (o : Option (ℕ → List Row)). IfSome o (λ history. given ≡ rows_of_partition c.args.table partition (history c.args.front))) used.told got.told) c.in_ok-rows.ensures;
      each = each_part_more c.args.table c.args.front low high parts i partition c.loop-partition-test.true is loop.rows.items given all loop.invariant.each got.each.each c.in_ok-rows.ensures;
      given = tested_behind state.may_give (is_in_time_range low high) loop.rows.items given all loop.invariant.given (given_before used given got.given) c.in_ok-rows.ensures;
      told = inr (subst (λ (o : Option (ℕ → List Row)). IfSome o AreRowSourceHistories) used.told got.history);
    }

pub returns-clause-told : goal.returns-clause-told
returns-clause-told g c =
    let told = (g.Self.RowSource.state c.args.self.now).history in
    let parts = c.args.parts.now in
    let loop = c.loop-partition in
    let low = to_z-of_z w64 c.args.from c.ranges.from in
    let high = to_z-of_z w64 c.args.to c.ranges.to in
    let moved = c.in_ok-merged_by_key.ensures in
    between_read told c.args.table c.args.front c.args.from c.args.to parts loop.rows.items c.in_ok-merged_by_key.field-0 c.requires
    (all_gathered told c.args.table c.args.front c.args.from c.args.to parts loop.partition-index loop.rows.items c.loop-partition-test.false (rw (low, high) at loop.invariant.rows)) loop.invariant.told moved.same moved.sorted moved.stable

pub returns-clause-each : goal.returns-clause-each
returns-clause-each g c =
    let low = to_z-of_z w64 c.args.from c.ranges.from in
    let high = to_z-of_z w64 c.args.to c.ranges.to in
    each_moved (IsRowBetween c.args.table c.args.parts.now c.args.from c.args.to) c.loop-partition.rows.items c.in_ok-merged_by_key.field-0 c.in_ok-merged_by_key.ensures.same (rw (low, high) at c.loop-partition.invariant.each)

pub returns-clause-given : goal.returns-clause-given
returns-clause-given g c =
    each_moved (g.Self.RowSource.state c.args.self.now).may_give c.loop-partition.rows.items c.in_ok-merged_by_key.field-0 c.in_ok-merged_by_key.ensures.same c.loop-partition.invariant.given

-- ---- why none are given

pub returns-in_err-part_rows-clause-refused : goal.returns-in_err-part_rows-clause-refused
returns-in_err-part_rows-clause-refused g c =
    let loop = c.loop-partition in
    fault_passed c.from_residual.result c.in_err-part_rows.field-0.0 (g.Self.RowSource.state c.args.self.now) (g.Self.RowSource.state c.rows.new.self) c.from_residual.ensures.1
    (fault_before loop.invariant.used loop.invariant.calm (g.Self.RowSource.state c.rows.new.self) c.in_err-part_rows.field-0.0 c.in_err-part_rows.ensures.refused)

pub returns-in_err-rows-clause-refused : goal.returns-in_err-rows-clause-refused
returns-in_err-rows-clause-refused g c =
    fault_passed c.from_residual-in_err-rows.result OutOfMemory (g.Self.RowSource.state c.args.self.now) (g.Self.RowSource.state c.rows.new.self) c.from_residual-in_err-rows.ensures.1
    (c.in_ok-part_rows.ensures.no_fault ∙ c.loop-partition.invariant.calm)

pub returns-in_err-merged_by_key-clause-refused : goal.returns-in_err-merged_by_key-clause-refused
returns-in_err-merged_by_key-clause-refused g c =
    fault_passed c.from_residual-in_err-merged_by_key.result OutOfMemory (g.Self.RowSource.state c.args.self.now) (g.Self.RowSource.state c.loop-partition.self) c.from_residual-in_err-merged_by_key.ensures.1
    c.loop-partition.invariant.calm
