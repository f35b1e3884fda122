-- What a publication takes of the one before, and which intervals it marks anew.
use Rattle.std.specs.Prelude.{◌≡◌, ◌⊎◌, ℕ, ℤ, true, List, ◌++◌, drop, map, option_map, IsSomeAnd}
use Rattle.std.specs.List.{flat_map, list_any, AllByRecursion}
use Rattle.std.specs.Option.{option_to_list}
use Rattle.intervals.specs.declared.interval.Interval.{Interval}
use Rattle.intervals.specs.Interval.{interval_of}
use Rattle.arch_disk.specs.Disk.{Device}
use Rattle.history_items.specs.declared.fills.Fill.{Fill}
use Rattle.history_items.specs.declared.items.Item.{Item}
use Rattle.history_items.specs.Fills.{is_same}
use Rattle.history_items.specs.Items.{row_of_item}
use Rattle.history_items.specs.Late.{HasRow, StandsIn}
use Rattle.history_items.specs.Noted.{noted_of}
use Rattle.interval_walks.specs.Turns.{IntervalsRise}
use Rattle.archive_store.specs.declared.batch.Arrival.{Arrival}
use Rattle.archive_store.specs.StoreView.{StoreView}
use Rattle.glance_board.specs.declared.contents.PublishedMark.{PublishedMark}
use Rattle.glance_board.specs.Listings.{IsMarkOf, StayingFacts, intervals_of}
use Rattle.store_shelf.specs.Publications.{staying_of}

-- ---- intervals

-- an interval is one of these
abbrev pub IsAmong : List Interval → Interval → Type 0
IsAmong intervals interval = list_any (is_same interval) intervals ≡ true

-- the interval of a time
abbrev pub interval_at : ℕ → ℤ → Interval
interval_at exponent time = record { 0 = interval_of exponent time }

-- the intervals of packets that were received
abbrev pub arrived_intervals : ℕ → List Arrival → List Interval
arrived_intervals exponent arrivals = map (λ arrival. interval_at exponent arrival.row.key.time) arrivals

-- the interval of the fill that is there by an item of a fill list, where there is one
abbrev pub filled_interval : Fill → List Interval
filled_interval item = option_to_list (option_map (λ fill. fill.interval) (noted_of item).done)

-- the intervals of the fills that are there by a fill list
abbrev pub filled_intervals : List Fill → List Interval
filled_intervals fills = flat_map filled_interval fills

-- ---- what came

-- items are rows with their times in these intervals
abbrev pub ComeTo : ℕ → List Interval → List Item → Type 0
ComeTo exponent intervals items = AllByRecursion (λ item.
    IsSomeAnd (row_of_item item) (λ row. IsAmong intervals (interval_at exponent row.key.time))) items

-- what came to a store's history behind a front are rows with their times in the intervals of these packets
abbrev pub CameBy : {D : Type 0} → StoreView D → ℕ → List Arrival → Type 0
CameBy store front arrivals =
    ComeTo store.exponent (arrived_intervals store.exponent arrivals) (drop front store.history)

-- ---- marks

-- Marks of a history and its fills, but for intervals that are left: a mark of any other tells of its interval what the
-- lists do, and each interval that has rows has a mark or is left.
pub record AreMarksBut (archive : StayingFacts) (history : List Item) (fills : List Fill) (left : List Interval)
    (marks : List PublishedMark) : Type 0 where
  pub some : AllByRecursion (λ mark. HasRow archive.exponent mark.interval history) marks
  pub each : AllByRecursion (λ mark. IsAmong left mark.interval ⊎ IsMarkOf archive history fills mark) marks
  pub rising : IntervalsRise (intervals_of marks)
  pub cover : (interval : Interval) (position : ℕ) → StandsIn archive.exponent interval position history →
      IsAmong left interval ⊎ IsAmong (intervals_of marks) interval

-- those of a store
abbrev pub AreStoreMarksBut : {D : Type 0} → Device D → StoreView D → List Interval → List PublishedMark → Type 0
AreStoreMarksBut device store left marks =
    AreMarksBut (staying_of device store) store.history store.fills left marks

-- where these intervals were left, and others, the others alone are from now on
abbrev pub Renews : {D : Type 0} → Device D → StoreView D → List Interval → List PublishedMark → List PublishedMark → Type 0
Renews device store intervals old new = (others : List Interval) →
    AreStoreMarksBut device store (intervals ++ others) old → AreStoreMarksBut device store others new
