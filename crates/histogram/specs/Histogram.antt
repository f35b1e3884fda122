-- What is true of the fields of a histogram.
use Rattle.std.specs.Prelude.{ℕ, ◌+◌, ◌^◌, ◌<◌, ◌≤◌, map}
use Rattle.std.specs.List.{AllByRecursion}
use Rattle.block_map.specs.Index.{Listing}
use Rattle.block_map.specs.Rising.{IsRising}
use Rattle.histogram.specs.declared.histogram.NamedTime.{NamedTime}
use Rattle.histogram.specs.declared.near.SpanStart.{SpanStart}
use Rattle.histogram.specs.Times.{named_time_cmp, HistogramView, HasTimes}
use Rattle.histogram.specs.SpanEntries.{named_span, total, IsSpanEntry}

-- the histogram that an index and a room stand for
abbrev pub histogram_view : Listing NamedTime SpanStart → ℕ → HistogramView
histogram_view index room = record { records = map named_span index.entries; room = room }

-- the index has the records of some times, no more than `rows`, and a place for each addition that has room; no count
-- passes 2^64
pub record IsHistogram (index : Listing NamedTime SpanStart) (rows room : ℕ) : Type 0 where
  pub rising : IsRising named_time_cmp index.entries
  pub whole : AllByRecursion IsSpanEntry index.entries
  pub times : HasTimes (histogram_view index room)
  pub counted : total index.entries ≤ rows
  pub has_room : room ≤ index.room
  pub small : rows + room < 2 ^ 64
