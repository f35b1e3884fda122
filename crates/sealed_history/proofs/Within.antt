-- Limits of rows in runs and of a log.
use Rattle.std.proofs.Common.{◌≡◌, ◌⊎◌, inl, inr, ℕ, ◌+◌, ◌<◌, ◌≤◌, List, [], ◌∷◌, ◌++◌, length, Bool, true, false, refl, sym, ap, ◌∙◌, subst, arith, append_assoc, length-append}
use Rattle.std.specs.Prelude.{◌==◌, ◌&&◌, filter, if◌then◌else◌}
use Rattle.std.specs.List.{AllByRecursion}
use Rattle.std.specs.Ordering.{int_eq}
use Rattle.std.proofs.lemmas.Bool.{eqb-true}
use Rattle.std.proofs.lemmas.Bool.Decides.{Decides-int_eq}
use mathlib.Core.List.{IsPrefix}
use Rattle.arch_types.specs.declared.row.Row.{Row}
use Rattle.intervals.specs.declared.interval.Interval.{Interval}
use Rattle.intervals.specs.Interval.{interval_of}
use Rattle.history_items.specs.Items.{is_of_interval, rows_in}
use Rattle.run_pages.specs.Placed.{Placed, rows_of_placed}
use Rattle.sealed_sums.specs.Sums.{SumsView}
use Rattle.archive_history.specs.History.{HistoryView}
use Rattle.archive_history.specs.LimitCounts.{LimitCountsView, interval_row_count}
use Rattle.archive_history.specs.Limits.{octets_of, interval_rows, IsWithin, IsWithinOver}
use Rattle.archive_history.specs.RowLimits.{row_limit}
use Rattle.archive_history.specs.declared.row_limit.RowLimit.TheVariants as limits
use Rattle.archive_history.proofs.Sums.{octets-append, interval_rows-append}
use Rattle.sealed_history.specs.Inside.{AreTogether, IsAmongFew}

module _ (e base : ℕ) (runs : List Row) where
  -- fewer rows of the log pass no limit either
  pub over_less : (log more : List Row) → IsWithinOver e base runs (log ++ more) → IsWithinOver e base runs log
  over_less log more w = record {
    few = omega (arith, w.few, length-append log more);
    octets = omega (arith, w.octets, octets-append runs (log ++ more), octets-append log more, octets-append runs log);
    intervals = λ i. omega (arith, w.intervals i, interval_rows-append e i runs (log ++ more), interval_rows-append e i log more, interval_rows-append e i runs log);
  }

  pub over_prefix : (log all : List Row) → IsPrefix log all → IsWithinOver e base runs all → IsWithinOver e base runs log
  over_prefix log all begins w = over_less log begins.0 (subst (IsWithinOver e base runs) (sym begins.1) w)

  -- nor does the log alone
  pub log_within : (log : List Row) → IsWithinOver e base runs log → IsWithin e log
  log_within log w = record {
    few = omega (arith, w.few);
    octets = omega (arith, w.octets, octets-append runs log);
    intervals = λ i. omega (arith, w.intervals i, interval_rows-append e i runs log);
  }

-- ---- counts of runs, of a log and of rows behind them

pub octets_three : (runs log rows : List Row) → octets_of ((runs ++ log) ++ rows) ≡ octets_of runs + octets_of log + octets_of rows
octets_three runs log rows = omega (arith, octets-append (runs ++ log) rows, octets-append runs log)

pub interval_three : (e : ℕ) (i : Interval) (runs log rows : List Row) → interval_rows e i ((runs ++ log) ++ rows) ≡ interval_rows e i runs + interval_rows e i log + interval_rows e i rows
interval_three e i runs log rows = omega (arith, interval_rows-append e i (runs ++ log) rows, interval_rows-append e i runs log)

-- what is counted of runs and of a log
pub record Counts (e : ℕ) (runs log : List Row) (in_runs in_log : LimitCountsView) : Type 0 where
  pub octets_in_runs : in_runs.octets ≡ octets_of runs
  pub rows_in_runs : (i : Interval) → interval_row_count in_runs.rows i ≡ interval_rows e i runs
  pub octets_in_log : in_log.octets ≡ octets_of log
  pub rows_in_log : (i : Interval) → interval_row_count in_log.rows i ≡ interval_rows e i log

pub counts_of : (placed : List Placed) (base : ℕ) (sums : SumsView) (log : HistoryView) (in_runs in_log : LimitCountsView) → AreTogether placed base sums log → in_runs ≡ sums.limit_counts → in_log.octets ≡ octets_of (rows_in log.items)
    → ((i : Interval) → interval_row_count in_log.rows i ≡ interval_rows log.exponent i (rows_in log.items)) → Counts log.exponent (rows_of_placed placed) (rows_in log.items) in_runs in_log
counts_of placed base sums log in_runs in_log are same octets rows = record {
  octets_in_runs = ap (λ (l : LimitCountsView). l.octets) same ∙ are.sums_are.octets;
  rows_in_runs = λ i. ap (λ (l : LimitCountsView). interval_row_count l.rows i) same ∙ are.sums_are.intervals i ∙ ap (λ (e : ℕ). interval_rows e i (rows_of_placed placed)) are.exponent;
  octets_in_log = octets;
  rows_in_log = rows;
}

-- ---- intervals

and_true : (a b : Bool) → (a && b) ≡ true → (a ≡ true) × (b ≡ true)
and_true true b e = (refl, e)
and_true false b e = absurd cc

-- an interval has none of these rows, or few enough of all
pub none_or_few : (e : ℕ) (interval : Interval) (all rows : List Row) → AllByRecursion (IsAmongFew e all) rows → (interval_rows e interval rows ≡ 0) ⊎ (interval_rows e interval all ≤ row_limit limits.IntervalRows)
none_or_few e interval all [] each = inl refl
none_or_few e interval all (row ∷ rows) each = go (is_of_interval e interval row) refl (none_or_few e interval all rows each.1)
  where
    go : (b : Bool) → is_of_interval e interval row ≡ b → (interval_rows e interval rows ≡ 0) ⊎ (interval_rows e interval all ≤ row_limit limits.IntervalRows)
        → (length (if b then row ∷ filter (is_of_interval e interval) rows else filter (is_of_interval e interval) rows) ≡ 0) ⊎ (interval_rows e interval all ≤ row_limit limits.IntervalRows)
    go true is rest =
        let p = and_true (row.table == 0) (int_eq (interval_of e row.key.time) interval.0) is in
        inr (each.0 (eqb-true row.table 0 p.0) interval (sym ((Decides-int_eq (interval_of e row.key.time) interval.0).0 p.1)))
    go false is rest = rest

-- without rows behind them runs and log have too many of an interval only where the runs alone have
pub few_before : (e base : ℕ) (runs log : List Row) (i : Interval) → (log ≡ []) ⊎ IsWithinOver e base runs log → interval_rows e i runs ≤ row_limit limits.IntervalRows → interval_rows e i (runs ++ log) ≤ row_limit limits.IntervalRows
few_before e base runs log i (inl none) few = omega (arith, few, interval_rows-append e i runs log, ap (interval_rows e i) none)
few_before e base runs log i (inr within) few = within.intervals i

pub not_more : (a b : ℕ) → (a < b → ⊥) → b ≤ a
not_more a b few = omega (arith, few)
