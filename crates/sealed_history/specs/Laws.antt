-- What the rows that are counted have to do with the items.
use Rattle.std.specs.Prelude.{◌≡◌, ◌↔◌, ℕ, Contains, IsPermutation}
use Rattle.archive_history.specs.History.{rows_in_table}
use Rattle.archive_history.specs.Limits.{IsWithin, IsWithinOver}
use Rattle.archive_history.specs.PartitionedTable.{named_times_of}
use Rattle.histogram.specs.Times.{spans_of_times, times_of}
use Rattle.history_items.specs.Items.{rows_in}
use Rattle.partitions.specs.declared.partition.Partition.{Partition}
use Rattle.partitions.specs.Rows.{partitions_of}
use Rattle.run_pages.specs.Placed.{rows_of_placed}
use Rattle.sealed_history.specs.SealedHistory.{SealedHistoryView, IsPlainHistory, IsWholeHistory, counted_in_table}

-- a whole history passes no limit exactly where the rows of its runs and of its log pass none together
abbrev pub WholeIsWithin : Type 0
WholeIsWithin = (h : SealedHistoryView) → IsWholeHistory h →
    IsWithinOver h.exponent h.base (rows_of_placed h.placed) h.log ↔ IsWithin h.exponent (rows_in h.items)

-- the rows of a table that are counted stand in the partitions in which its rows of the history stand
abbrev pub CountedPartitionsAreItems : Type 0
CountedPartitionsAreItems = (h : SealedHistoryView) → IsWholeHistory h → (table : ℕ) (p : Partition) →
    Contains (partitions_of (counted_in_table table h)) p ↔ Contains (partitions_of (rows_in_table table h.items)) p

-- and their times make the spans of those
abbrev pub CountedSpansAreItems : Type 0
CountedSpansAreItems = (h : SealedHistoryView) → IsWholeHistory h → (table pname : ℕ) →
    spans_of_times (times_of pname (named_times_of (counted_in_table table h)))
    ≡ spans_of_times (times_of pname (named_times_of (rows_in_table table h.items)))

-- where the log has all rows, they are a whole history
abbrev pub PlainIsWhole : Type 0
PlainIsWhole = (h : SealedHistoryView) → IsPlainHistory h → IsWholeHistory h
