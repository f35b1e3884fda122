use Rattle.std.proofs.Common.{◌≡◌, ◌+◌, ◌≤◌, ◌++◌, true, subst, arith}
use Rattle.std.proofs.lemmas.Bool.Decides.{nat_tests}
use Rattle.archive_history.specs.Limits.{interval_rows}
use Rattle.archive_history.proofs.Steps.{few_filter}
use Rattle.history_items.specs.Items.{is_of_interval, rows_in}
use Rattle.run_pages.specs.Placed.{rows_of_placed}
use Rattle.sealed_history.specs.SealedHistory.{SealedHistoryView, counted_rows, rows_told}
use Rattle.sealed_history.proofs.Within.{counts_of, interval_three}
use Rattle.sealed_history.proofs.history.SealedHistory.are_all_few.Goals as goal

pub returns : goal.returns
returns c is i =
    let s = c.self.inside in
    let runs = rows_of_placed (rows_told s.told.items) in
    let log = rows_in s.log.items in
    let rows = c.args.rows.now in
    let e = s.log.exponent in
    let counts = counts_of (rows_told s.told.items) s.base s.sums s.log c.limit_counts.result.now c.limit_counts-2.result.now c.self.invariant c.limit_counts.ensures c.limit_counts-2.ensures.octets c.limit_counts-2.ensures.rows in
    let few : c.saturating_add.result ≤ c.limit.result = grind (arith, nat_tests, is) in
    subst (λ (v : SealedHistoryView). interval_rows v.exponent i (counted_rows v ++ rows) ≤ 262144) c.self.view_is
    (omega (arith, few, c.limit.ensures, interval_three e i runs log rows, counts.rows_in_runs i, counts.rows_in_log i, c.most_rows-in_runs.ensures.at_most i, c.most_rows.ensures.at_most i, few_filter (is_of_interval e i) rows))
