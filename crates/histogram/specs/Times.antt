-- The times of packet names, and their records.
use Rattle.std.specs.Prelude.{◌≡◌, ℕ, ◌==◌, List, [], ◌∷◌, filter, map, ℤ, ◌≤ℤ◌, int_lt}
use Rattle.std.specs.List.{AllByRecursion}
use Rattle.std.specs.Ordering.{nat_cmp, int_cmp, ordering_then}
use Rattle.std.specs.declared.cmp.Ordering.{Ordering}
use Rattle.arch_types.specs.Order.{order_by}
use Rattle.arch_types.specs.declared.spans.Span.{Span}
use Rattle.histogram.specs.declared.histogram.NamedTime.{NamedTime}
use Rattle.histogram.specs.Spans.{histogram_of}

-- packet names by their numbers, and times of one name in their order
abbrev pub named_time_cmp : NamedTime → NamedTime → Ordering
named_time_cmp a b = ordering_then (nat_cmp a.pname b.pname) (int_cmp a.time b.time)

-- the records, each beside its packet name; and how many more additions take no memory
pub record HistogramView : Type 0 where
  pub records : List (ℕ × Span)
  pub room : ℕ

-- the records of one packet name
abbrev pub spans_of : ℕ → HistogramView → List Span
spans_of pname histogram = map (λ r. r.1) (filter (λ r. r.0 == pname) histogram.records)

-- each time is no later than those after it
abbrev pub AreSorted : List ℤ → Type 0
AreSorted [] = Unit {0}
AreSorted (time ∷ times) = AllByRecursion (λ later. time ≤ℤ later) times × AreSorted times

-- the histogram of times that came in any order
abbrev pub spans_of_times : List ℤ → List Span
spans_of_times times = histogram_of (order_by int_lt times)

-- the times of one packet name, as they came
abbrev pub times_of : ℕ → List NamedTime → List ℤ
times_of pname times = map (λ at. at.time) (filter (λ at. at.pname == pname) times)

-- times of one packet name
abbrev pub named_times : ℕ → List ℤ → List NamedTime
named_times pname times = map (λ time. record { pname = pname; time = time }) times

-- times make one record, and it is this one
abbrev pub AreOneSpan : Span → List ℤ → Type 0
AreOneSpan span times = spans_of_times times ≡ span ∷ []

-- the records of each packet name are those of its times
abbrev pub IsHistogramOf : HistogramView → List NamedTime → Type 0
IsHistogramOf histogram times = (pname : ℕ) → spans_of pname histogram ≡ spans_of_times (times_of pname times)

-- there are times whose records these are
pub record HasTimes (histogram : HistogramView) : Type 0 where
  pub times : List NamedTime
  pub records : IsHistogramOf histogram times
