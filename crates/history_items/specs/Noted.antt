-- What an item of a fill list notes, and what an addition adds. What tells their kinds apart stands here alone.
use Rattle.std.specs.Prelude.{ℕ, Bool, List, Option, Some, None}
use Rattle.intervals.specs.declared.interval.Interval.{Interval}
use Rattle.history_items.specs.declared.fills.Addition.{Addition}
use Rattle.history_items.specs.declared.fills.Addition.TheVariants as additions
use Rattle.history_items.specs.declared.fills.Fill.{Fill}
use Rattle.history_items.specs.declared.fills.Fill.TheVariants.{Begun, Done, Freed, Fault, Closed}
use Rattle.history_items.specs.declared.items.Item.{Item}
use Rattle.history_items.specs.Items.{items_of}

-- a fill of an interval over the first `base` items of the history
pub record IntervalFill : Type 0 where
  pub interval : Interval
  pub base : ℕ

-- an interval's flight: it begins over a base, or ends
pub record NotedFlight : Type 0 where
  pub interval : Interval
  pub base : Option ℕ

-- a fault: the disk's count, whether a failed write of it stands, and what its call would have added
pub record NotedFault : Type 0 where
  pub count : ℕ
  pub wrote : Bool
  pub unacknowledged : Addition

-- what an item of a fill list notes: a fill that is there from then on, a flight that begins or ends, a fault
pub record Noted : Type 0 where
  pub done : Option IntervalFill
  pub flight : Option NotedFlight
  pub fault : Option NotedFault

-- what an addition adds to an archive: items behind its history, or a fill, or neither
pub record Added : Type 0 where
  pub items : Option (List Item)
  pub fill : Option IntervalFill

-- a fill of this interval and base
abbrev pub interval_fill : Interval → ℕ → IntervalFill
interval_fill interval base = record { interval = interval; base = base }

-- a flight of this interval that begins over a base, or ends
abbrev pub noted_flight : Interval → Option ℕ → NotedFlight
noted_flight interval base = record { interval = interval; base = base }

-- a fault of these
abbrev pub noted_fault : ℕ → Bool → Addition → NotedFault
noted_fault count wrote unacknowledged = record { count = count; wrote = wrote; unacknowledged = unacknowledged }

-- what an item notes
abbrev pub noted_of : Fill → Noted
noted_of (Begun i b) = record { done = None; flight = Some (noted_flight i (Some b)); fault = None }
noted_of (Done i b) = record { done = Some (interval_fill i b); flight = Some (noted_flight i None); fault = None }
noted_of (Freed i) = record { done = None; flight = Some (noted_flight i None); fault = None }
noted_of (Fault count wrote addition) = record { done = None; flight = None; fault = Some (noted_fault count wrote addition) }
noted_of Closed = record { done = None; flight = None; fault = None }

-- what an addition adds
abbrev pub added_of : Addition → Added
added_of additions.Nothing = record { items = None; fill = None }
added_of (additions.Rows rows) = record { items = Some (items_of rows); fill = None }
added_of (additions.Fill interval base) = record { items = None; fill = Some (interval_fill interval base) }

-- the fault that an item notes, where it notes one
abbrev pub fault_of_fill : Fill → Option NotedFault
fault_of_fill item = (noted_of item).fault

-- the items that a fault holds, where it holds any
abbrev pub items_of_fault : NotedFault → Option (List Item)
items_of_fault fault = (added_of fault.unacknowledged).items
