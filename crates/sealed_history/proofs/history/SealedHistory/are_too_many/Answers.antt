use Rattle.std.proofs.Common.{◌≡◌, ℕ, ◌<◌, ◌++◌, ◌∙◌, ap, arith}
use Rattle.archive_history.specs.LimitCounts.{LimitCountsView, interval_row_count}
use Rattle.archive_history.specs.Limits.{interval_rows}
use Rattle.archive_history.proofs.Steps.{few_filter}
use Rattle.history_items.specs.Items.{is_of_interval, rows_in}
use Rattle.run_pages.specs.Placed.{rows_of_placed}
use Rattle.sealed_history.specs.SealedHistory.{SealedHistoryView, counted_rows, rows_told}
use Rattle.sealed_history.proofs.Within.{interval_three}
use Rattle.sealed_history.proofs.history.SealedHistory.are_too_many.Goals as goal

pub returns-then-saturating_add-limit : goal.returns-then-saturating_add-limit
returns-then-saturating_add-limit c = (
  (λ is. absurd cc),
  (λ many.
      let s = c.self.inside in
      let runs = rows_of_placed (rows_told s.told.items) in
      let log = rows_in s.log.items in
      let rows = c.args.rows.now in
      let e = s.log.exponent in
      let i = c.args.interval in
      let here : interval_rows e i ((runs ++ log) ++ rows) ≡ interval_rows c.args.self.now.exponent i (counted_rows c.args.self.now ++ rows) = ap (λ (v : SealedHistoryView). interval_rows v.exponent i (counted_rows v ++ rows)) c.self.view_is in
      let of_runs : interval_row_count s.sums.limit_counts.rows i ≡ interval_rows e i runs = c.self.invariant.sums_are.intervals i ∙ ap (λ (x : ℕ). interval_rows x i runs) c.self.invariant.exponent in
      let told : c.rows_of-in_runs.result ≡ interval_row_count s.sums.limit_counts.rows i = c.rows_of-in_runs.ensures ∙ ap (λ (l : LimitCountsView). interval_row_count l.rows i) c.limit_counts.ensures in
      absurd (omega (arith, many, here, interval_three e i runs log rows, of_runs, told, c.interval_len.ensures, c.saturating_add.ensures, c.saturating_add-known.ensures, c.limit.ensures, c.if-saturating_add-limit.true, few_filter (is_of_interval e i) rows))),
)
