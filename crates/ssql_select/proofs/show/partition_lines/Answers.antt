use Rattle.std.proofs.Common.{◌≡◌, ℕ, ◌++◌, List, get_or, Option, ap, subst, ◌∙◌}
use Rattle.std.specs.Prelude.{IfSome}
use Rattle.arch_types.specs.declared.row.Row.{Row}
use Rattle.arch_types.specs.declared.row_fault.RowFault.TheVariants.{OutOfMemory}
use Rattle.partitions.proofs.Parted.{no_partition, default_free}
use Rattle.replay_merge.specs.RowSource.{rows_of_partition}
use Rattle.replay_merge.proofs.Giving.{fault_before, fault_passed, used_twice}
use Rattle.ssql_select.specs.ShowText.{line_of_rows}
use Rattle.ssql_select.proofs.ShownRows.{one_part_more}
use Rattle.ssql_select.proofs.show.partition_lines.Goals as goal

pub loop-partition-preserved : goal.loop-partition-preserved
loop-partition-preserved g c =
    let told = (g.R.RowSource.state c.args.source.now).history in
    let front = c.args.front in
    let table = c.args.table in
    let i = c.loop-partition.partition-index in
    let partition = get_or c.args.parts.now i no_partition in
    let is : partition ≡ get_or c.args.parts.now i partition = default_free c.args.parts.now i no_partition partition c.loop-partition-test.true in
    let lines = c.loop-partition.lines.items in
    let rows = c.in_ok-rows.rows in
    let got = c.in_ok-rows.ensures in
    let used = c.loop-partition.invariant.used in
    record {
      used = used_twice used got.source;
      calm = got.no_fault ∙ c.loop-partition.invariant.calm;
      left = g.met.R.RowSource.both_left c.args.source.now c.loop-partition.source c.rows.new.self c.loop-partition.invariant.left got.left;
      lines = one_part_more front table told c.args.parts.now i partition lines rows c.add_partition.new.lines.items c.loop-partition-test.true is c.loop-partition.invariant.lines
          (subst (λ (o : Option (ℕ → List Row)). IfSome o (λ history. rows ≡ rows_of_partition table partition (history front))) used.told got.told)
          (c.in_ok-add_partition.ensures ∙ ap (λ (r : List Row). lines ++ line_of_rows partition r) c.as_slice.ensures);
    }

-- the requirement of `add_partition`, beside the rows as a slice
pub add_partition-requires : goal.add_partition-requires
add_partition-requires g c = rw c.as_slice.ensures c.in_ok-rows.ensures.each

-- why none are given

pub returns-in_err-rows-clause-refused : goal.returns-in_err-rows-clause-refused
returns-in_err-rows-clause-refused g c =
    fault_passed c.from_residual.result c.in_err-rows.field-0.0 (g.R.RowSource.state c.args.source.now) (g.R.RowSource.state c.rows.new.self) c.from_residual.ensures.1
    (fault_before c.loop-partition.invariant.used c.loop-partition.invariant.calm (g.R.RowSource.state c.rows.new.self) c.in_err-rows.field-0.0 c.in_err-rows.ensures.refused)

pub returns-in_err-add_partition-clause-refused : goal.returns-in_err-add_partition-clause-refused
returns-in_err-add_partition-clause-refused g c =
    fault_passed c.from_residual-in_err-add_partition.result OutOfMemory (g.R.RowSource.state c.args.source.now) (g.R.RowSource.state c.rows.new.self) c.from_residual-in_err-add_partition.ensures.1
    (c.in_ok-rows.ensures.no_fault ∙ c.loop-partition.invariant.calm)
