use Rattle.std.proofs.Common.{◌≡◌, ◌∙◌, ℕ, List, Option, reverse, true, sym, subst}
use Rattle.std.specs.Prelude.{filter, IfSome}
use Rattle.arch_types.specs.declared.row.Row.{Row}
use Rattle.arch_types.specs.declared.row_fault.RowFault.TheVariants.{OutOfMemory}
use Rattle.arch_types.specs.Table.{sorted}
use Rattle.partitions.specs.Rows.{is_of_parts}
use Rattle.ssql_select.specs.Selection.{is_enough, is_selected, merged_between, rows_between_of}
use Rattle.ssql_select.proofs.Limits.{still_within}
use Rattle.replay_merge.proofs.Giving.{fault_before, fault_passed, given_before, used_twice}
use Rattle.ssql_select.proofs.Selecting.{day_given, day_told, day_counted, steps_within, days_done, days_enough, none_left}
use Rattle.ssql_select.proofs.select.select_days.Goals as goal

pub days-preserved : goal.days-preserved
days-preserved g c =
    let told = (g.R.RowSource.state c.args.source.now).history in
    let statement = c.args.statement.now in
    let bounds = c.args.bounds.now in
    let front = c.args.front in
    let parts = c.args.parts.now in
    let left = c.days.left.now in
    let found = c.days.selected.items in
    let day = c.split_day.result.0.now in
    let rest = c.split_day.result.1.now in
    let rows = c.in_ok-rows.rows.items in
    let turned = c.turned-rows.result.items in
    let used = c.days.invariant.used in
    let given = rw c.as_slice-tables.ensures at c.in_ok-rows.ensures.rows in
    let got = subst (λ (o : Option (ℕ → List Row)). IfSome o (λ history. rows ≡ sorted (rows_between_of statement.sources day bounds.from bounds.to (history front)))) used.told given in
    let new = c.add_met.new.selected.items in
    record {
      used = used_twice used c.in_ok-rows.ensures.source;
      calm = c.in_ok-rows.ensures.no_fault ∙ c.days.invariant.calm;
      reads_left = g.met.R.RowSource.both_left c.args.source.now c.days.source c.merged_rows.new.source c.days.invariant.reads_left c.in_ok-rows.ensures.left;
      rising = c.split_day.ensures.rest;
      within = still_within statement.limit found new (filter (is_selected statement.condition) (reverse turned)) c.in_ok-add_met.ensures.rows;
      given = day_given (g.R.RowSource.state c.args.source.now).may_give (is_selected statement.condition) statement.limit statement.direction found new rows turned
          c.turned-rows.ensures.rows c.in_ok-add_met.ensures.rows c.days.invariant.given (given_before used rows c.in_ok-rows.ensures.given);
      found = c.in_ok-add_met.ensures.each;
      rows = day_told statement left day rest bounds.from bounds.to front rows turned c.split_day.ensures.rows told found new parts got c.turned-rows.ensures.rows c.in_ok-add_met.ensures.rows c.days.invariant.rows;
      steps = day_counted statement left day rest bounds.from bounds.to front rows turned c.split_day.ensures.rows told c.days.steps c.add_met.new.steps c.args.steps.now parts got c.turned-rows.ensures.len c.add_met.ensures.steps c.days.invariant.steps;
    }

pub returns-in_err-add_met-clause-steps : goal.returns-in_err-add_met-clause-steps
returns-in_err-add_met-clause-steps g c =
    let told = (g.R.RowSource.state c.args.source.now).history in
    let statement = c.args.statement.now in
    let bounds = c.args.bounds.now in
    let front = c.args.front in
    let parts = c.args.parts.now in
    let left = c.days.left.now in
    let found = c.days.selected.items in
    let day = c.split_day.result.0.now in
    let rest = c.split_day.result.1.now in
    let rows = c.in_ok-rows.rows.items in
    let turned = c.turned-rows.result.items in
    let used = c.days.invariant.used in
    let given = rw c.as_slice-tables.ensures at c.in_ok-rows.ensures.rows in
    let got = subst (λ (o : Option (ℕ → List Row)). IfSome o (λ history. rows ≡ sorted (rows_between_of statement.sources day bounds.from bounds.to (history front)))) used.told given in
    let all = λ (ps : List _) (history : ℕ → List Row). filter (is_of_parts ps) (merged_between statement.sources bounds.from bounds.to (history front)) in
    steps_within told (all rest) (all parts) c.add_met.new.steps c.args.steps.now
    (day_counted statement left day rest bounds.from bounds.to front rows turned c.split_day.ensures.rows told c.days.steps c.add_met.new.steps c.args.steps.now parts got c.turned-rows.ensures.len c.add_met.ensures.steps c.days.invariant.steps)

pub returns-then-is_empty-clause-rows : goal.returns-then-is_empty-clause-rows
returns-then-is_empty-clause-rows g c =
    let told = (g.R.RowSource.state c.args.source.now).history in
    let statement = c.args.statement.now in
    let bounds = c.args.bounds.now in
    let front = c.args.front in
    let parts = c.args.parts.now in
    let left = c.days.left.now in
    let found = c.days.selected.items in
    days_done told statement left parts bounds.from bounds.to front found (none_left left (sym c.is_empty.ensures ∙ c.if-is_empty.true)) c.days.invariant.within c.days.invariant.rows

pub returns-clause-rows : goal.returns-clause-rows
returns-clause-rows g c =
    let told = (g.R.RowSource.state c.args.source.now).history in
    let statement = c.args.statement.now in
    let bounds = c.args.bounds.now in
    let front = c.args.front in
    let parts = c.args.parts.now in
    let left = c.days.left.now in
    let found = c.days.selected.items in
    let most : is_enough statement.limit found ≡ true = rw c.as_slice.ensures.value at (sym c.is_enough.ensures ∙ c.days-test.false) in
    days_enough told statement left parts bounds.from bounds.to front found most c.days.invariant.within c.days.invariant.rows

-- ---- why none are given

pub returns-in_err-rows-clause-refused : goal.returns-in_err-rows-clause-refused
returns-in_err-rows-clause-refused g c =
    fault_passed c.from_residual.result c.in_err-rows.field-0.0 (g.R.RowSource.state c.args.source.now) (g.R.RowSource.state c.merged_rows.new.source) c.from_residual.ensures.1
    (fault_before c.days.invariant.used c.days.invariant.calm (g.R.RowSource.state c.merged_rows.new.source) c.in_err-rows.field-0.0 c.in_err-rows.ensures.refused)

pub returns-in_err-add_met-clause-refused : goal.returns-in_err-add_met-clause-refused
returns-in_err-add_met-clause-refused g c =
    fault_passed c.from_residual-in_err-add_met.result OutOfMemory (g.R.RowSource.state c.args.source.now) (g.R.RowSource.state c.merged_rows.new.source) c.from_residual-in_err-add_met.ensures.1
    (c.in_ok-rows.ensures.no_fault ∙ c.days.invariant.calm)
