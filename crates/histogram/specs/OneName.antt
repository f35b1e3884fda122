-- The records of one packet name alone.
use Rattle.std.specs.Prelude.{◌≡◌, ◌≢◌, ℕ, ◌+◌, ◌^◌, List, [], ◌∷◌, true, pos, neg_ℤ, ◌≤ℤ◌}
use Rattle.std.specs.List.{AllByRecursion}
use Rattle.arch_types.specs.declared.spans.Span.{Span}
use Rattle.block_map.specs.Rising.{IsRising}
use Rattle.histogram.specs.declared.histogram.NamedTime.{NamedTime}
use Rattle.histogram.specs.declared.near.SpanStart.{SpanStart}
use Rattle.histogram.specs.Times.{named_time_cmp}
use Rattle.histogram.specs.Near.{is_apart}
use Rattle.histogram.specs.SpanEntries.{spans_in, total, IsSpanEntry}

-- how many times records have
abbrev pub count_of : List Span → ℕ
count_of [] = 0
count_of (span ∷ spans) = span.count + count_of spans

-- entries are these records of a packet name, and no others
pub record AreRecordsOf (pname : ℕ) (spans : List Span) (entries : List (NamedTime × SpanStart)) : Type 0 where
  pub own : spans_in pname entries ≡ spans
  pub others : (other : ℕ) → other ≢ pname → spans_in other entries ≡ []
  pub rising : IsRising named_time_cmp entries
  pub whole : AllByRecursion IsSpanEntry entries
  pub counted : total entries ≡ count_of spans

-- a record begins more than 60,000 ms after each of these has ended
pub record ComesAfter (span : Span) (spans : List Span) : Type 0 where
  pub ordered : span.first ≤ℤ span.last
  pub low : neg_ℤ (pos (2 ^ 63)) ≤ℤ span.last
  pub apart : AllByRecursion (λ s. is_apart s.last span.first ≡ true) spans
