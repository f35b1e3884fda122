use Rattle.std.proofs.Common.{rules, ◌+◌, ◌<◌, ◌^◌, arith}
use Rattle.history_items.specs.Items.{is_of_interval}
use Rattle.archive_history.proofs.Steps.{few_filter}
use Rattle.archive_history.proofs.history.are_too_many.Goals as goal

pub returns-then-known-rows : goal.returns-then-known-rows
returns-then-known-rows c = (
  λ is. absurd cc,
  λ many. absurd (omega (arith, many, c.rows_of-known.ensures, few_filter (is_of_interval c.args.exponent c.args.interval) c.args.rows.now, c.if-known-rows.true, c.limit.ensures)),
)

pub overflow_add-result : goal.overflow_add-result
overflow_add-result c =
    let less : c.rows_of-known.result + c.interval_rows_in.result < 2 ^ 64 =
    omega (arith, c.rows_of-known.ensures, c.requires.counted, c.interval_rows_in.ensures, few_filter (is_of_interval c.args.exponent c.args.interval) c.args.rows.now, c.requires.few) in
    search (rules, arith)
