-- The sets that stand for intervals.
use Rattle.std.specs.Prelude.{◌≡◌, ℕ, List, Some}
use Rattle.intervals.specs.declared.interval.Interval.{Interval}
use Rattle.history_items.specs.Databases.{database_in}
use Rattle.history_items.specs.Late.{IsLate}
use Rattle.param_segments.specs.Extracted.{IsSetOf}
use Rattle.param_segments.specs.Rows.{SetRow}
use Rattle.store_fills.specs.LastFills.{fill_over, fillings_in}
use Rattle.archive_store.specs.StoreView.{StoreView}

-- a set stands for an interval: the interval isn't late, and the set is that of its last fill, of the interval and of
-- the database in force
pub record IsCurrentSet {D : Type 0} (store : StoreView D) (interval : Interval) (set : List SetRow) : Type 0 where
  pub current : IsLate store.exponent interval store.history store.fills → ⊥
  pub base : ℕ
  pub filled : fillings_in store.filled interval ≡ Some (fill_over base set)
  pub fits : IsSetOf (database_in store.head.mdb store.history) store.exponent interval.0 set
