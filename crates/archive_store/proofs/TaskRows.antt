-- The rows of an interval, as a set is built of them.
use Rattle.std.proofs.Common.{◌≡◌, List, [], ◌∷◌, map}
use Rattle.std.specs.Prelude.{ℕ}
use Rattle.std.specs.List.{AllByRecursion}
use Rattle.std.specs.List.Sorted.{IsStrictlySortedBy}
use Rattle.std.specs.declared.cmp.Ordering.TheVariants.{Less}
use Rattle.intervals.specs.declared.interval.Interval.{Interval}
use Rattle.arch_types.specs.declared.key.Key.{Key}
use Rattle.arch_types.specs.declared.row.Row.{Row}
use Rattle.intervals.specs.Interval.{interval_of, interval_end, interval_start}
use Rattle.arch_types.specs.Order.{key_cmp}
use Rattle.interval_fills.proofs.Intervals.{range_in}
use Rattle.replay_merge.specs.RowSource.{AreRowsIn, IsRowIn}
use Rattle.store_fills.specs.Built.{IsTaskRows}

-- ---- keys of rows

keys_above : (key : Key) (rows : List Row) → AllByRecursion (λ row. key_cmp key row.key ≡ Less) rows → AllByRecursion (λ k. key_cmp key k ≡ Less) (map (λ (row : Row). row.key) rows)
keys_above key [] all = tt
keys_above key (row ∷ rows) all = (all.0, keys_above key rows all.1)

keys_rise : (rows : List Row) → IsStrictlySortedBy (λ (a b : Row). key_cmp a.key b.key) rows → IsStrictlySortedBy key_cmp (map (λ (row : Row). row.key) rows)
unfolding IsStrictlySortedBy
keys_rise [] up = tt
keys_rise (row ∷ rows) up = (keys_above row.key rows up.0, keys_rise rows up.1)

-- ---- rows of an interval

module _ (exponent : ℕ) (interval : Interval) where
  each_inside : (rows : List Row) → AllByRecursion (IsRowIn 0 (interval_start exponent interval) (interval_end exponent interval)) rows → AllByRecursion (λ row. interval_of exponent row.key.time ≡ interval.0) rows
  each_inside [] all = tt
  each_inside (row ∷ rows) all = (range_in exponent interval row all.0.in_range, each_inside rows all.1)

  -- those that a source gives of its times
  pub task_rows : (rows : List Row) → AreRowsIn 0 (interval_start exponent interval) (interval_end exponent interval) rows → IsTaskRows exponent interval rows
  task_rows rows are = record { rising = keys_rise rows are.rising; inside = each_inside rows are.each }
