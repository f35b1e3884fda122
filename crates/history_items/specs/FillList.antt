-- The intervals in flight as a list, and a fill list with its places.
use Rattle.std.specs.Prelude.{◌≡◌, ℕ, ◌+◌, ◌-◌, ◌≤◌, List, [], ◌∷◌, ◌++◌, fold, filter, is_some, not, vec_len, vec_capacity, if◌then◌else◌}
use Rattle.std.specs.Option.{option_map_or}
use Rattle.std.specs.Global.{Vec}
use Rattle.intervals.specs.declared.interval.Interval.{Interval}
use Rattle.history_items.specs.declared.fills.Fill.{Fill}
use Rattle.history_items.specs.Fills.{is_same}
use Rattle.history_items.specs.Noted.{NotedFlight, noted_of}

-- the flights but those of this interval
abbrev pub flights_without : Interval → List Interval → List Interval
flights_without interval flights = filter (λ flight. not (is_same interval flight)) flights

-- the flights after one that begins, behind the others, or ends, wherever it stands
abbrev pub flights_with : List Interval → NotedFlight → List Interval
flights_with flights flight =
    if is_some flight.base then flights ++ flight.interval ∷ [] else flights_without flight.interval flights

-- the flights after one item more
abbrev pub flights_after : List Interval → Fill → List Interval
flights_after flights item = option_map_or (flights_with flights) (noted_of item).flight flights

-- the intervals in flight, in the order in which their flights began
abbrev pub flights_of : List Fill → List Interval
flights_of fills = fold flights_after [] fills

-- the items, and how many more may be noted without memory, beside the end of each flight
pub record FillListView : Type 0 where
  pub items : List Fill
  pub room : ℕ

-- what contracts see of items and flights
abbrev pub fill_list_of : Vec Fill → Vec Interval → FillListView
fill_list_of items flights = record { items = items.items; room = vec_capacity items - vec_len items - vec_len flights }

-- the flights are those of the items, and behind these is a place for the end of each flight
pub record KeepsPlaces (items : Vec Fill) (flights : Vec Interval) : Type 0 where
  pub flights_are : flights.items ≡ flights_of items.items
  pub places : vec_len items + vec_len flights ≤ vec_capacity items
