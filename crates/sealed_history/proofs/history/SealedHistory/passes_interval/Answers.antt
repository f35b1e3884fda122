use Rattle.std.proofs.Common.{◌≡◌, ◌⊎◌, inl, inr, ◌<◌, ◌≤◌, ℕ, List, ◌++◌, Bool, true, false, refl, sym, ◌∙◌, ap, subst, arith}
use Rattle.std.specs.List.{AllByRecursion}
use Rattle.intervals.specs.declared.interval.Interval.{Interval}
use Rattle.archive_history.specs.LimitCounts.{LimitCountsView, IsMost, interval_row_count}
use Rattle.archive_history.specs.Limits.{interval_rows}
use Rattle.arch_types.specs.declared.row.Row.{Row}
use Rattle.archive_history.proofs.Sums.{interval_rows-append}
use Rattle.history_items.specs.Items.{rows_in}
use Rattle.run_pages.specs.Placed.{rows_of_placed}
use Rattle.sealed_history.specs.Inside.{IsAmongFew}
use Rattle.sealed_history.specs.SealedHistory.{SealedHistoryView, counted_rows, rows_told}
use Rattle.sealed_history.proofs.Within.{few_before, interval_three, none_or_few}
use Rattle.sealed_history.proofs.history.SealedHistory.passes_interval.Goals as goal

pub returns-then-are_all_few : goal.returns-then-are_all_few
returns-then-are_all_few c = (
  (λ is. absurd cc),
  (λ many. absurd (omega (arith, many.1, c.if-are_all_few.ensures refl many.0))),
)

-- the interval that has most
has_most : (most : ℕ) (rows : List (Interval × ℕ)) → IsMost most rows → 0 < most → (i : Interval) × (interval_row_count rows i ≡ most)
has_most most rows is some = by is.reached
  where
    by : (most ≡ 0) ⊎ ((i : Interval) × (interval_row_count rows i ≡ most)) → (i : Interval) × (interval_row_count rows i ≡ most)
    by (inl none) = absurd (omega (arith, none, some))
    by (inr had) = had

-- one of the rows is in an interval with too many, where these had few enough
by_rows : (b : Bool) (e : ℕ) (i : Interval) (before rows : List Row) → (b ≡ false → AllByRecursion (IsAmongFew e (before ++ rows)) rows) → interval_rows e i before ≤ 262144 → 262144 < interval_rows e i (before ++ rows) → b ≡ true
by_rows true e i before rows each few many = refl
by_rows false e i before rows each few many = absurd (by (none_or_few e i (before ++ rows) rows (each refl)))
  where
    by : (interval_rows e i rows ≡ 0) ⊎ (interval_rows e i (before ++ rows) ≤ 262144) → ⊥
    by (inl none) = omega (arith, none, few, many, interval_rows-append e i before rows)
    by (inr fits) = omega (arith, fits, many)

pub returns-then-most_rows-limit : goal.returns-then-most_rows-limit
returns-then-most_rows-limit c = (
  (λ is.
      let s = c.self.inside in
      let runs = rows_of_placed (rows_told s.told.items) in
      let log = rows_in s.log.items in
      let rows = c.args.rows.now in
      let e = s.log.exponent in
      let had = has_most c.most_rows.result c.limit_counts.result.now.rows c.most_rows.ensures (omega (arith, c.if-most_rows-limit.true)) in
      let i = had.0 in
      let of_runs : interval_row_count s.sums.limit_counts.rows i ≡ interval_rows e i runs = c.self.invariant.sums_are.intervals i ∙ ap (λ (x : ℕ). interval_rows x i runs) c.self.invariant.exponent in
      let told : interval_row_count c.limit_counts.result.now.rows i ≡ interval_row_count s.sums.limit_counts.rows i = ap (λ (l : LimitCountsView). interval_row_count l.rows i) c.limit_counts.ensures in
      let here : interval_rows e i ((runs ++ log) ++ rows) ≡ interval_rows c.args.self.now.exponent i (counted_rows c.args.self.now ++ rows) = ap (λ (v : SealedHistoryView). interval_rows v.exponent i (counted_rows v ++ rows)) c.self.view_is in
      (i, omega (arith, here, interval_three e i runs log rows, of_runs, told, had.1, c.if-most_rows-limit.true, c.limit.ensures))),
  (λ many. refl),
)

pub returns : goal.returns
returns c = (
  (λ is. c.passes_one.ensures.yes is),
  (λ many.
      let s = c.self.inside in
      let runs = rows_of_placed (rows_told s.told.items) in
      let log = rows_in s.log.items in
      let rows = c.args.rows.now in
      let e = s.log.exponent in
      let i = many.0 in
      let of_runs : interval_row_count s.sums.limit_counts.rows i ≡ interval_rows e i runs = c.self.invariant.sums_are.intervals i ∙ ap (λ (x : ℕ). interval_rows x i runs) c.self.invariant.exponent in
      let told : interval_row_count c.limit_counts.result.now.rows i ≡ interval_row_count s.sums.limit_counts.rows i = ap (λ (l : LimitCountsView). interval_row_count l.rows i) c.limit_counts.ensures in
      let few_runs : interval_rows e i runs ≤ 262144 = omega (arith, of_runs, told, c.most_rows.ensures.at_most i, c.if-most_rows-limit.false, c.limit.ensures) in
      let few = few_before e s.base runs log i c.self.invariant.within few_runs in
      let few_here = subst (λ (v : SealedHistoryView). interval_rows v.exponent i (counted_rows v) ≤ 262144) c.self.view_is few in
      by_rows c.passes_one.result c.args.self.now.exponent i (counted_rows c.args.self.now) rows c.passes_one.ensures.no few_here many.1),
)
