use Rattle.std.proofs.Common.{◌≡◌, ◌∙◌, ℕ, List, Option, get_or, w64, SFits, sym, subst, rules}
use Rattle.std.proofs.lemmas.Int.{to_z-of_z}
use Rattle.std.specs.Prelude.{IfSome}
use Rattle.std.specs.List.{AllByRecursion}
use Rattle.arch_types.specs.declared.row.Row.{Row}
use Rattle.arch_types.specs.declared.row_fault.RowFault.TheVariants.{OutOfMemory}
use Rattle.partitions.proofs.Parted.{default_free}
use Rattle.replay_merge.specs.RowSource.{IsKeyedRow, range_of_parts}
use Rattle.replay_merge.proofs.Giving.{fault_before, fault_passed, given_before, used_twice}
use Rattle.replay_merge.proofs.Reading.{all_both}
use Rattle.ssql_select.proofs.Merged.{one_table_more, keyed_between}
use Rattle.ssql_select.proofs.merge.rows_by_table.Goals as goal

pub loop-table-preserved : goal.loop-table-preserved
loop-table-preserved g c =
    let state = g.R.RowSource.state c.args.source.now in
    let told = state.history in
    let loop = c.loop-table in
    let tables = c.args.tables.now in
    let parts = c.args.parts.now in
    let bounds = c.args.bounds.now in
    let i = loop.table-index in
    let table = get_or tables i 0 in
    let is : table ≡ get_or tables i table = default_free tables i 0 table c.loop-table-test.true in
    let more = c.in_ok-more.more in
    let got = c.in_ok-more.ensures in
    let from_fits : SFits w64 bounds.from = search rules in
    let to_fits : SFits w64 bounds.to = search rules in
    let low = to_z-of_z w64 bounds.from from_fits in
    let high = to_z-of_z w64 bounds.to to_fits in
    let given = rw (low, high) at got.told in
    let each_given = rw (low, high) at got.each in
    let all = c.in_ok-rows.rows.items in
    let used = loop.invariant.used in
    record {
      used = used_twice used got.source;
      calm = got.no_fault ∙ loop.invariant.calm;
      left = g.met.R.RowSource.both_left c.args.source.now loop.source c.rows_on_days.new.source loop.invariant.left got.left;
      rows = one_table_more parts bounds.from bounds.to c.args.front told tables i table loop.rows.items more all c.loop-table-test.true is loop.invariant.rows
          (subst (λ (o : Option (ℕ → List Row)). IfSome o (λ history. more ≡ range_of_parts table parts bounds.from bounds.to (history c.args.front))) used.told given) c.in_ok-rows.ensures;
      given = subst (AllByRecursion state.may_give) (sym c.in_ok-rows.ensures) (all_both state.may_give loop.rows.items more loop.invariant.given (given_before used more got.given));
      each = subst (AllByRecursion IsKeyedRow) (sym c.in_ok-rows.ensures) (all_both IsKeyedRow loop.rows.items more loop.invariant.each (keyed_between table parts bounds.from bounds.to more each_given));
    }

-- ---- why none are given

pub returns-in_err-more-clause-refused : goal.returns-in_err-more-clause-refused
returns-in_err-more-clause-refused g c =
    fault_passed c.from_residual.result c.in_err-more.field-0.0 (g.R.RowSource.state c.args.source.now) (g.R.RowSource.state c.rows_on_days.new.source) c.from_residual.ensures.1
    (fault_before c.loop-table.invariant.used c.loop-table.invariant.calm (g.R.RowSource.state c.rows_on_days.new.source) c.in_err-more.field-0.0 c.in_err-more.ensures.refused)

pub returns-in_err-rows-clause-refused : goal.returns-in_err-rows-clause-refused
returns-in_err-rows-clause-refused g c =
    fault_passed c.from_residual-in_err-rows.result OutOfMemory (g.R.RowSource.state c.args.source.now) (g.R.RowSource.state c.rows_on_days.new.source) c.from_residual-in_err-rows.ensures.1
    (c.in_ok-more.ensures.no_fault ∙ c.loop-table.invariant.calm)
