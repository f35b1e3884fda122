-- What a fill list tells: bases of fills, flights, and faults.
use Rattle.std.specs.Prelude.{◌≡◌, ℕ, ◌+◌, ◌-◌, ◌^◌, ◌<◌, ◌≤◌, slice_get, Bool, false, List, [], ◌∷◌, fold, map, min, Option, Some, None, option_map, IsSomeAnd, if◌then◌else◌}
use Rattle.std.specs.List.{filter_map}
use Rattle.std.specs.Option.{option_map_or}
use Rattle.std.specs.Ordering.{int_eq}
use Rattle.intervals.specs.declared.interval.Interval.{Interval}
use Rattle.history_items.specs.declared.fills.Addition.{Addition}
use Rattle.history_items.specs.declared.fills.Fill.{Fill}
use Rattle.history_items.specs.declared.fills.Fill.TheVariants.{Begun, Done, Fault}
use Rattle.history_items.specs.declared.items.Item.{Item}
use Rattle.history_items.specs.Noted.{NotedFault, fault_of_fill, items_of_fault, noted_of}

-- whether two are one interval
abbrev pub is_same : Interval → Interval → Bool
is_same a b = int_eq a.0 b.0

-- ---- fills

-- the base of an interval's last fill after one more item, given the one before
abbrev pub base_after : Interval → Option ℕ → Fill → Option ℕ
base_after interval base item =
    option_map_or (λ fill. if is_same interval fill.interval then Some fill.base else base) (noted_of item).done base

-- the base of the last Done of an interval
abbrev pub base_in : Interval → List Fill → Option ℕ
base_in interval fills = fold (base_after interval) None fills

-- the base of an interval's flight after one more item, given the one before: the last item that names the interval
-- decides
abbrev pub flight_after : Interval → Option ℕ → Fill → Option ℕ
flight_after interval base item =
    option_map_or (λ flight. if is_same interval flight.interval then flight.base else base) (noted_of item).flight base

-- the base of an interval that is in flight: the last item that names it is Begun, with this base
abbrev pub in_flight : Interval → List Fill → Option ℕ
in_flight interval fills = fold (flight_after interval) None fills

-- a Done of the interval with this base stands at a place, and no Done of it behind that place
pub record IsLastDone (interval : Interval) (base : ℕ) (fills : List Fill) : Type 0 where
  pub place : ℕ
  pub there : slice_get fills place ≡ Some (Done interval base)
  pub last : (later other : ℕ) → place < later → slice_get fills later ≡ Some (Done interval other) → ⊥

-- a flight of the interval begins or ends by the item: it is a Begun, a Done or a Freed of the interval
abbrev pub EndsFlight : Interval → Fill → Type 0
EndsFlight interval item = IsSomeAnd (noted_of item).flight (λ flight. flight.interval ≡ interval)

-- a Begun of the interval with this base stands at a place, and behind it neither another Begun of it nor a Done or Freed
-- of it
pub record IsBegunLast (interval : Interval) (base : ℕ) (fills : List Fill) : Type 0 where
  pub place : ℕ
  pub there : slice_get fills place ≡ Some (Begun interval base)
  pub last : (later : ℕ) (item : Fill) → place < later → slice_get fills later ≡ Some item → EndsFlight interval item → ⊥

-- ---- faults

-- the faults that a fill list notes, in their order
abbrev pub noted_faults : List Fill → List NotedFault
noted_faults fills = filter_map fault_of_fill fills

-- the items that each fault holds, of those that hold any
abbrev pub rows_of_faults : List Fill → List (List Item)
rows_of_faults fills = filter_map items_of_fault (noted_faults fills)

-- the first fault after whose failed write no reopen has succeeded
abbrev pub first_pending : List NotedFault → Option NotedFault
first_pending [] = None
first_pending (fault ∷ faults) = if fault.wrote then Some fault else first_pending faults

-- the count of the first such fault of a fill list
abbrev pub pending_fault_of : List Fill → Option ℕ
pending_fault_of fills = option_map (λ fault. fault.count) (first_pending (noted_faults fills))

-- what the call of that fault would have added
abbrev pub unacknowledged_in : List Fill → Option Addition
unacknowledged_in fills = option_map (λ fault. fault.unacknowledged) (first_pending (noted_faults fills))

-- an item after a reopen that succeeded
abbrev pub cleared : Fill → Fill
cleared item = option_map_or (λ fault. Fault fault.count false fault.unacknowledged) (fault_of_fill item) item

-- a fill list after a reopen that succeeded
abbrev pub reopened : List Fill → List Fill
reopened fills = map cleared fills

-- the next value of a counter that stands still at its last one
abbrev pub above : ℕ → ℕ
above count = min (count + 1) (2 ^ 64 - 1)

-- the counts of these faults rise from the first number, and none is above the last
abbrev pub CountsRise : ℕ → ℕ → List NotedFault → Type 0
CountsRise low high [] = Unit {0}
CountsRise low high (fault ∷ faults) =
    (low ≤ fault.count) × (fault.count ≤ high) × CountsRise (above fault.count) high faults

-- those of a fill list do
abbrev pub Rising : ℕ → ℕ → List Fill → Type 0
Rising low high fills = CountsRise low high (noted_faults fills)
